-- asked_in_song   the voice that is asked for is as acceptance has reported it (InSong)
use Rattle.std.specs.Prelude.{ℕ, ◌≡◌, List}
use Rattle.std.proofs.Common.{subst}
use Rattle.refusals.specs.Numbers.Outcome.{accepted}
use Rattle.mus.specs.declared.Voice.{Voice}
use Rattle.mus.specs.Asked.{voice_asked}
use Rattle.mus.specs.Bounds.{InSong}
use Rattle.mus.specs.AskedLaws.{asked-accepted, in_song}

-- The voice that is answered to a caller who names it is as acceptance has reported it.
pub asked_in_song : (f : List ℕ) (n : ℕ) (v : Voice) → voice_asked f n ≡ accepted v → InSong f v
asked_in_song f n v e = let a = asked-accepted f n v e in subst (InSong f) a.voice (in_song f a.song n a.file)
