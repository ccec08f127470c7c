-- Source 002, 'Part One - Text Header': a line 'consists of an uppercase tag name and an optional argument',
-- 'separated from tag name with a single space'. What stands at the front of bytes:
-- value_at         the argument of each tag that takes one
-- alone           STEREO and NTSC: each 'takes no argument'
-- spaced, argument_after   what follows a tag's name: nothing, or one space and an argument
-- good_line        a line that fits
-- with_argument, with_tag, line_at   a tag, how many bytes its name and its argument have, and the argument's
--                                 value
use Rattle.std.specs.Prelude.{Option, Some, None, ℕ, ◌+◌, Bool, cond, ◌||◌, List, length, drop, eqb}
use Rattle.characters.specs.Characters.{begins, most}
use Rattle.saptags.specs.declared.Tag.{Tag}
use Rattle.saptags.specs.declared.Tag.TheVariants as tag
use Rattle.saptags.specs.Tags.{name_of, index_of, tag_at}
use Rattle.saparguments.specs.declared.Argument.{Argument}
use Rattle.saparguments.specs.Arguments.{good, decimal_at, address_at, covox_at, letter_at, text_at}
use Rattle.saptimes.specs.Times.{time_at}
use Rattle.saplines.specs.declared.Line.{Line}

abbrev pub value_at : Tag → List ℕ → Option Argument
value_at tag.Author s = text_at s
value_at tag.Name s = text_at s
value_at tag.Date s = text_at s
value_at tag.Songs s = decimal_at 1 32 s
value_at tag.DefSong s = decimal_at 0 most s
value_at tag.Stereo s = None
value_at tag.Ntsc s = None
value_at tag.Type s = letter_at s
value_at tag.FastPlay s = decimal_at 1 32767 s
value_at tag.Init s = address_at s
value_at tag.Music s = address_at s
value_at tag.Player s = address_at s
value_at tag.Covox s = covox_at s
value_at tag.Time s = time_at s

abbrev pub alone : Tag → Bool
alone t = eqb (index_of t) (index_of tag.Stereo) || eqb (index_of t) (index_of tag.Ntsc)

abbrev pub spaced : Option Argument → Option Argument
spaced None = None
spaced (Some a) = good (a.len + 1) a.value

unfoldable pub argument_after : Tag → List ℕ → Option Argument
argument_after t s = cond (alone t) (good 0 1) (cond (begins 0x20 s) (spaced (value_at t (drop 1 s))) None)

abbrev pub good_line : Tag → ℕ → ℕ → Option Line
good_line t n value = Some (record { tag = t; len = n; value = value })

abbrev pub with_argument : Tag → Option Argument → Option Line
with_argument t None = None
with_argument t (Some a) = good_line t (length (name_of t) + a.len) a.value

abbrev pub with_tag : List ℕ → Option Tag → Option Line
with_tag s None = None
with_tag s (Some t) = with_argument t (argument_after t (drop (length (name_of t)) s))

unfoldable pub line_at : List ℕ → Option Line
line_at s = with_tag s (tag_at s)
