-- Document 01, 'Playing a voice', the listing: 'For each i from 0 and below that count, cell i of the first
-- list holds the offset, and cell i of the second the jiffy, of the event whose number is the first one asked
-- for plus i', and 'what lies beyond keeps its old content'. So for elements of any type.
-- window    so many of some elements, from one of them on
-- filled    a list with a window in its first cells
use Rattle.std.specs.Prelude.{ℕ, List, ◌++◌, take, drop}

abbrev pub window : {A : Type 0} → ℕ → ℕ → List A → List A
window first n xs = take n (drop first xs)

abbrev pub filled : {A : Type 0} → ℕ → ℕ → List A → List A → List A
filled first n xs cells = window first n xs ++ drop n cells
