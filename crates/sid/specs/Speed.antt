-- Document 01, 'PSID and RSID': 'Speed of song n is bit n-1 of the speed field, bit 31 for n above 32; songs
-- run from 1.'
-- speed_bit         the bit
-- speed_of          by the number of songs and the speed field: 44 for a song that is not there, else the bit
-- song_speed        so by an accepted file's header
use Rattle.std.specs.Prelude.{ℕ, ◌-◌, ◌/◌, ◌%◌, ◌^◌, min, ◌||◌, [], ◌∷◌, ltb, eqb}
use Rattle.refusals.specs.Numbers.{Outcome}
use Rattle.refusals.specs.Numbers.Outcome.{accepted}
use Rattle.refusals.specs.declared.Reason.TheVariants.{NoSuchSong}
use Rattle.refusals.specs.Tests.{test, first_of, guarded}
use Rattle.sid.specs.declared.Header.{Header}

unfoldable pub speed_bit : ℕ → ℕ → ℕ
speed_bit field n = field / 2 ^ (min n 32 - 1) % 2

abbrev pub speed_of : ℕ → ℕ → ℕ → Outcome ℕ
speed_of songs field n = guarded (first_of (test NoSuchSong (eqb n 0 || ltb songs n) ∷ [])) (accepted (speed_bit field n))

abbrev pub song_speed : Header → ℕ → Outcome ℕ
song_speed h n = speed_of h.songs h.speed n
