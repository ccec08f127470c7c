-- Of an accepted file tt_mus_voices and tt_mus_accept put out the same places.
-- offsets_and_pairs   of twelve numbers, four for a voice, the first two for each
-- head-right        a file to which none of 21 to 26 applies has a value of tt_mus_voices
-- part_length       a voice that lies in the file has as many bytes as its span says
-- same_places       of an accepted file the two calls agree
use Rattle.std.specs.Prelude.{ℕ, ◌≡◌, List, [], ◌∷◌, length, drop, get_or}
use Rattle.std.proofs.Common.{arith, length-take, length-drop}
use Rattle.fields.specs.declared.Span.{Span}
use Rattle.fields.specs.Parts.{part_of}
use Rattle.refusals.specs.Numbers.Outcome.{accepted}
use Rattle.refusals.specs.Tests.{None}
use Rattle.refusals.specs.Laws.{none_passed}
use Rattle.container.specs.Head.{head_of, voices_of, head_tests, head_outcome}
use Rattle.container.specs.Layout.{layout_of, container_tests}
use Rattle.container.specs.Laws.{VoiceFits, voice1-fits, voice2-fits, voice3-fits}
use Rattle.mus.specs.declared.Song.{Song}
use Rattle.mus.specs.Song.{mus_outcome}
use Rattle.mus.specs.Acceptance.{song_of, accepted-clear}
use Rattle.muscalls.specs.Lists.{song_numbers}
use Rattle.musparts.specs.Lists.{place_numbers}

abbrev pub offsets_and_pairs : List ℕ → List ℕ
offsets_and_pairs ns =
    get_or ns 0 0 ∷ get_or ns 1 0 ∷ get_or ns 4 0 ∷ get_or ns 5 0 ∷ get_or ns 8 0 ∷ get_or ns 9 0 ∷ []

-- Where none of 21 to 26 applies, tt_mus_voices has a value: where the voices lie.
pub head-right : (f : List ℕ) → None (container_tests f) → head_outcome f ≡ accepted (voices_of (head_of f))
unfolding container_tests head_outcome
head-right f none = rw (none_passed (head_tests (head_of f)) (none.0, (none.1.0, (none.1.1.0, (none.1.1.1.0, tt)))))

-- The bytes of a voice that lies in the file are as many as its span says.
pub part_length : (f : List ℕ) (s : Span) → VoiceFits f s → length (part_of f s) ≡ s.len
part_length f s h = omega (arith, h.2, length-take s.len (drop s.from f), length-drop s.from f)

-- An accepted file has a value of tt_mus_voices, and its six numbers are the offsets and the pairs among the
-- twelve of tt_mus_accept.
pub same_places : (f : List ℕ) (s : Song) → mus_outcome f ≡ accepted s
    → (head_outcome f ≡ accepted (voices_of (head_of f)))
    × (place_numbers (voices_of (head_of f)) ≡ offsets_and_pairs (song_numbers s))
unfolding song_of layout_of
same_places f s e =
    let c = accepted-clear f s e in
    let k = c.0.container in
    let v = voices_of (head_of f) in (
      head-right f k,
      rw (
        ← c.1,
        part_length f v.voice1 (voice1-fits f k),
        part_length f v.voice2 (voice2-fits f k),
        part_length f v.voice3 (voice3-fits f k),
      ),
    )
