-- Source 002: 'The first line must consist of the word "SAP" immediately followed by CR/LF'.
-- first_line   the first five bytes of a file are these
use Rattle.std.specs.Prelude.{ℕ, Bool, ◌&&◌, List, eqb, get_or}

unfoldable pub first_line : List ℕ → Bool
first_line f =
    eqb (get_or f 0 0) 0x53 && eqb (get_or f 1 0) 0x41 && eqb (get_or f 2 0) 0x50 && eqb (get_or f 3 0) 0x0D && eqb (get_or f 4 0) 0x0A
