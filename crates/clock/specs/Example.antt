-- Document 01, 'Playing a voice', on pairs worked out by hand: each kind of note under values set before it,
-- in 384ths.
-- before       utility duration and utility voice with nothing set, a quarter at the start
-- utility      UTL 3, utility duration, its triplet; UTV 5, utility voice with bit 7 clear and set; utility
--              duration again
-- values       TEM 7, whole to 64th
-- shapes       dotted, triplet and double dotted quarter; triplet 64th by A0 and by 80, tied 64th; absolute
--              pitch; TEM 0, a whole note; HLT
-- each-lasts   what they last: 96 × 120; 384 × 3, 256 × 3, 384 × 5; 384 × 7 and its halves; 3/2, 2/3 and 7/4
--              of 96 × 7; 4 × 7, 6 × 7; 0; 384 × 256
use Rattle.std.specs.Prelude.{ℕ, ◌≡◌, refl, List, [], ◌∷◌, ◌++◌}
use Rattle.meaning.specs.declared.Meaning.{Meaning}
use Rattle.refusals.specs.Numbers.{Outcome}
use Rattle.pair.specs.Pairs.{meaning_of}
use Rattle.clock.specs.Lengths.{at_start, length_of, values_after}
use Rattle.clock.specs.Times.{lengths}

abbrev means : List ℕ → List (Outcome Meaning)
means [] = []
means (a ∷ []) = []
means (a ∷ b ∷ bs) = meaning_of a b ∷ means bs

abbrev before : List ℕ
before = 0x04 ∷ 0x94 ∷ 0x24 ∷ 0x94 ∷ 0x10 ∷ 0x94 ∷ []

abbrev utility : List ℕ
utility = 0x16 ∷ 0x03 ∷ 0x04 ∷ 0x94 ∷ 0x84 ∷ 0x94 ∷ 0xF6 ∷ 0x05 ∷ 0x24 ∷ 0x94 ∷ 0xA4 ∷ 0x94 ∷ 0x04 ∷ 0x94 ∷ []

abbrev values : List ℕ
values = 0x06 ∷ 0x07 ∷ 0x08 ∷ 0x94 ∷ 0x0C ∷ 0x94 ∷ 0x10 ∷ 0x94 ∷ 0x14 ∷ 0x94 ∷ 0x18 ∷ 0x94 ∷ 0x1C ∷ 0x94 ∷ 0x20 ∷ 0x94 ∷ []

abbrev shapes : List ℕ
shapes = 0x30 ∷ 0x94 ∷ 0x90 ∷ 0x94 ∷ 0xB0 ∷ 0x94 ∷ 0xA0 ∷ 0x94 ∷ 0x80 ∷ 0x94 ∷ 0x40 ∷ 0x94 ∷ 0x00 ∷ 0x94 ∷ 0x06 ∷ 0x00 ∷ 0x08 ∷ 0x00 ∷ 0x01 ∷ 0x4F ∷ []

-- Each of these pairs lasts as long as we work out by hand.
pub each-lasts : lengths at_start (means (before ++ utility ++ values ++ shapes))
    ≡ 0 ∷ 0 ∷ 11520 ∷ []
    ++ 0 ∷ 1152 ∷ 768 ∷ 0 ∷ 1920 ∷ 1920 ∷ 1152 ∷ []
    ++ 0 ∷ 2688 ∷ 1344 ∷ 672 ∷ 336 ∷ 168 ∷ 84 ∷ 42 ∷ []
    ++ 1008 ∷ 448 ∷ 1176 ∷ 28 ∷ 28 ∷ 42 ∷ 0 ∷ 0 ∷ 98304 ∷ 0 ∷ []
unfolding lengths length_of values_after
each-lasts = refl
