-- Document 01, 'MUS container': 'Order: 21, 22, 23, 24, 25, 26. Then voice 1, 2, 3'; and what an accepted
-- file says of itself.
-- voice_in         the voice at a span of a file, where read is the way to read its pairs
-- song_with        what a right container and its three voices say together
-- song_in          voice 1, 2, 3 of a file whose container is right, by the outcome of a voice
-- song_by          a file accepted or refused, where read is the way to read pairs
-- mus_outcome      the same with document 01's reader, pairs
use Rattle.std.specs.Prelude.{ℕ, List}
use Rattle.fields.specs.Parts.{part_of}
use Rattle.refusals.specs.Numbers.{Outcome}
use Rattle.refusals.specs.Numbers.Outcome.{accepted}
use Rattle.refusals.specs.Tests.{and_then}
use Rattle.fields.specs.declared.Span.{Span}
use Rattle.container.specs.declared.Layout.{Layout}
use Rattle.container.specs.Layout.{container_outcome}
use Rattle.bodies.specs.Voice.{Reader, pairs}
use Rattle.mus.specs.declared.Voice.{Voice}
use Rattle.mus.specs.declared.Song.{Song}
use Rattle.mus.specs.Voices.{voice_by}

abbrev pub voice_in : Reader → List ℕ → Span → Outcome Voice
voice_in read f s = voice_by read s.from (part_of f s)

abbrev pub song_with : Layout → Voice → Voice → Voice → Song
song_with l v1 v2 v3 =
    record {
      load = l.load;
      voice1 = v1;
      voice2 = v2;
      voice3 = v3;
      line1 = l.line1;
      line2 = l.line2;
      line3 = l.line3;
      line4 = l.line4;
      line5 = l.line5;
    }

abbrev pub song_in : (Span → Outcome Voice) → Layout → Outcome Song
song_in voice l =
    and_then (voice l.voice1)
    (λ v1. and_then (voice l.voice2)
    (λ v2. and_then (voice l.voice3)
    (λ v3. accepted (song_with l v1 v2 v3))))

unfoldable pub song_by : Reader → List ℕ → Outcome Song
song_by read f = and_then (container_outcome f) (λ l. song_in (voice_in read f) l)

abbrev pub mus_outcome : List ℕ → Outcome Song
mus_outcome f = song_by pairs f
