-- Not of document 01: why a file is not opened or not read, in words for a person.
-- error_texts   the words by number: 0 for an error that has none of its own, then ENOENT, EACCES, EISDIR,
--               ENOTDIR, ENAMETOOLONG, EINVAL, ELOOP, EIO
use Rattle.std.specs.Prelude.{ℕ, List, [], ◌∷◌}
use Rattle.fields.specs.Parts.{byte_text}

abbrev pub error_texts : List (List ℕ)
error_texts =
    byte_text "the machine does not give it" ∷
    byte_text "there is no such file" ∷
    byte_text "no right to read it" ∷
    byte_text "it is a folder" ∷
    byte_text "a part of its path is no folder" ∷
    byte_text "its name is too long" ∷
    byte_text "its name cannot be a file's" ∷
    byte_text "its links go round in a circle" ∷
    byte_text "the disk or card does not give it" ∷ []
