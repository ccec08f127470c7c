-- Document 02 (i): what the lines of a header state, each tag by its name alone.
-- whole, entry_of   what a line says: its tag and the argument's value; or that it is bad: 'unknown tag, bad
--                  argument'
-- is_bad, is_of      a line is bad, or of a tag
-- tagged      a stored line is of a tag
-- one_more, count_of   how many lines are of a tag
-- any_bad      some line is bad
-- once_tags, any_twice, again   'No tag but TIME comes twice'
-- bad_lines, bad_text   52: 'a bad line (unknown tag, bad argument, tag again) or no FF FF'
-- given       what a line of a tag states: where a text that it has stands in the file, and its argument's
--             value; None is that there is no such line
-- stated_by    what a line states
-- chosen, nth_of   the line of a tag by its number, counted from 0
-- stated      the line of a tag
-- time_of      the TIME of a song, counted from 0
use Rattle.std.specs.Prelude.{Option, Some, None, ℕ, zero, suc, ◌+◌, Bool, true, false, cond, ◌||◌, List, [], ◌∷◌, length, take, ltb, eqb}
use Rattle.saptags.specs.declared.Tag.{Tag}
use Rattle.saptags.specs.declared.Tag.TheVariants as tag
use Rattle.saptags.specs.Tags.{name_of, tags, index_of}
use Rattle.saplines.specs.declared.Line.{Line}
use Rattle.saplines.specs.Lines.{line_at}
use Rattle.saptext.specs.declared.Stated.{Stated}
use Rattle.saptext.specs.Text.{StoredLine, Text}
use Rattle.saptext.specs.Text.Text.{unended, ended}

-- a line that ends where its bytes do
abbrev pub whole : ℕ → Option Line → Option Line
whole size None = None
whole size (Some k) = cond (eqb k.len size) (Some k) None

abbrev pub entry_of : List ℕ → Option Line
entry_of l = whole (length l) (line_at l)

abbrev pub is_bad : Option Line → Bool
is_bad None = true
is_bad (Some k) = false

abbrev pub is_of : Tag → Option Line → Bool
is_of t None = false
is_of t (Some k) = eqb (index_of k.tag) (index_of t)

abbrev pub tagged : Tag → StoredLine → Bool
tagged t l = is_of t (entry_of l.bytes)

abbrev pub one_more : Bool → ℕ → ℕ
one_more true n = 1 + n
one_more false n = n

abbrev pub count_of : Tag → List StoredLine → ℕ
count_of t [] = 0
count_of t (l ∷ ls) = one_more (tagged t l) (count_of t ls)

abbrev pub any_bad : List StoredLine → Bool
any_bad [] = false
any_bad (l ∷ ls) = is_bad (entry_of l.bytes) || any_bad ls

-- every tag but TIME, which is the last
abbrev pub once_tags : List Tag
once_tags = take 13 tags

abbrev pub any_twice : List Tag → List StoredLine → Bool
any_twice [] ls = false
any_twice (t ∷ ts) ls = ltb 1 (count_of t ls) || any_twice ts ls

abbrev pub again : List StoredLine → Bool
again ls = any_twice once_tags ls

abbrev pub bad_lines : List StoredLine → Bool
bad_lines ls = any_bad ls || again ls

-- 52: 'a bad line (unknown tag, bad argument, tag again) or no FF FF'
abbrev pub bad_text : Text → Bool
bad_text unended = true
bad_text (ended ls end) = bad_lines ls

abbrev pub given : ℕ → ℕ → Option Stated
given place value = Some (record { place = place; value = value })

-- a text stands after the tag's name, one space and one quote
abbrev pub stated_by : ℕ → Option Line → Option Stated
stated_by from None = None
stated_by from (Some k) = given (from + length (name_of k.tag) + 2) k.value

-- a line of the tag is number 0 and the later ones count on; any other line does not count
abbrev pub chosen : Bool → ℕ → Option Stated → (ℕ → Option Stated) → Option Stated
chosen true zero here later = here
chosen true (suc n) here later = later n
chosen false n here later = later n

unfoldable pub nth_of : Tag → ℕ → List StoredLine → Option Stated
nth_of t n [] = None
nth_of t n (l ∷ ls) = chosen (tagged t l) n (stated_by l.from (entry_of l.bytes)) (λ k. nth_of t k ls)

abbrev pub stated : Tag → List StoredLine → Option Stated
stated t ls = nth_of t 0 ls

abbrev pub time_of : ℕ → List StoredLine → Option Stated
time_of song ls = nth_of tag.Time song ls
