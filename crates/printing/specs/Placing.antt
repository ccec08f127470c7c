-- Text in a lent list.
-- fitting      of a text that begins at a place of a list, what has room there
-- text_placed   the list with that in its place, every other cell as it stood
-- after_text    the place after it
use Rattle.std.specs.Prelude.{ℕ, ◌+◌, ◌-◌, List, length, take}
use Rattle.fields.specs.Parts.{put}

unfoldable pub fitting : List ℕ → ℕ → List ℕ → List ℕ
fitting out at text = take (length out - at) text

abbrev pub text_placed : List ℕ → ℕ → List ℕ → List ℕ
text_placed out at text = put out at (fitting out at text)

abbrev pub after_text : List ℕ → ℕ → List ℕ → ℕ
after_text out at text = at + length (fitting out at text)
