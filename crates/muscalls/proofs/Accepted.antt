-- What acceptance shows of the numbers that are handed out: places and lengths are small.
-- narrow_song   so of a MUS file
use Prim.Native.Nat.{ℕ, ◌≤◌}
use mathlib.Core.Path.{◌≡◌, subst}
use mathlib.Core.List.{List}
use native.Mathlib.Omega.{arith}
use lib.ListN.{length, drop, length-take, length-drop}
use Rattle.fields.specs.Parts.{part_of}
use Rattle.fields.specs.declared.Span.{Span}
use Rattle.refusals.specs.Numbers.Outcome.{accepted}
use Rattle.container.specs.Layout.{layout_of}
use Rattle.container.specs.Laws.{short-file, voice1-fits, voice2-fits, voice3-fits}
use Rattle.mus.specs.declared.Song.{Song}
use Rattle.mus.specs.Song.{mus_outcome}
use Rattle.mus.specs.Acceptance.{voice_report, song_of, accepted-clear}
use Rattle.muscalls.specs.Bounds.{NarrowVoice, NarrowSong}

pub narrow_song : (f : List ℕ) (s : Song) → mus_outcome f ≡ accepted s → NarrowSong s
unfolding song_of
narrow_song f s e =
    let c = accepted-clear f s e in
    let k = c.0.container in
    let short = short-file f k in
    subst NarrowSong c.1
    record {
      voice1 = span_narrow (layout_of f).voice1 short (omega (arith, (voice1-fits f k).2));
      voice2 = span_narrow (layout_of f).voice2 short (omega (arith, (voice2-fits f k).2));
      voice3 = span_narrow (layout_of f).voice3 short (omega (arith, (voice3-fits f k).2));
    }
  where
    span_narrow : (p : Span) → length f ≤ 65536 → p.from ≤ 65536 → NarrowVoice (voice_report p.from (part_of f p))
    span_narrow p short low =
        record { offset = low; length = omega (arith, length-take p.len (drop p.from f), length-drop p.from f) }
