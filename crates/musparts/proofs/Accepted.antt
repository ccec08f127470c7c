-- What acceptance shows of the numbers that are handed out: addresses, places and lengths are small.
-- load_narrow     so of a load address
-- line_narrow     of a text line
-- voices_narrow   of the voices of a file whose head is right
use Prim.Native.Nat.{ℕ, ◌+◌, ◌-◌, ◌≤◌}
use mathlib.Core.Path.{◌≡◌, subst}
use mathlib.Core.List.{List}
use native.Mathlib.Omega.{arith}
use lib.Dec.{ltb}
use lib.ListN.{length}
use borrow.Author.Tests.{ltb-false}
use Rattle.logic.specs.Truth.{neither}
use Rattle.fields.specs.declared.Span.{Span}
use Rattle.refusals.specs.Numbers.Outcome.{accepted}
use Rattle.container.specs.declared.Voices.{Voices}
use Rattle.container.specs.Head.{head_of, head_outcome}
use Rattle.container.specs.Layout.{layout_of, container_tests}
use Rattle.container.specs.Laws.{VoiceFits, head_none, head-fits, short-file}
use Rattle.mus.specs.declared.Song.{Song}
use Rattle.mus.specs.Song.{mus_outcome}
use Rattle.mus.specs.Text.{line_asked}
use Rattle.std.specs.Prelude.{Some}
use Rattle.mus.specs.Acceptance.{song_of, then_given, accepted-clear}
use Rattle.musparts.specs.Bounds.{NarrowSpan, NarrowVoices}
use Rattle.musparts.specs.LineLaws.{line-inside}

-- 22 lets pass no load address above 65,536
pub load_narrow : (f : List ℕ) (s : Song) → mus_outcome f ≡ accepted s → s.load ≤ 65536
unfolding song_of layout_of container_tests head_of
load_narrow f s e =
    let c = accepted-clear f s e in
    let x = head_of f in
    let past = (neither (ltb 65536 (length f)) (ltb 65536 (x.load + (length f - 2))) c.0.container.1.0).1 in
    subst (λ (t : Song). t.load ≤ 65536) c.1 (omega (arith, ltb-false 65536 (x.load + (length f - 2)) past))

pub line_narrow : (f : List ℕ) (n : ℕ) (s : Span) → line_asked f n ≡ accepted (Some s) → NarrowSpan s
unfolding line_asked
line_narrow f n s e =
    let inside = line-inside f n s e in
    let given = then_given (mus_outcome f) _ (Some s) e in
    let short = short-file f (accepted-clear f given.value given.was).0.container in
    record { from = omega arith; len = omega arith }

pub voices_narrow : (f : List ℕ) (v : Voices) → head_outcome f ≡ accepted v → NarrowVoices v
voices_narrow f v e =
    let h = head_none f v e in
    let fits = head-fits f h.0 in
    subst NarrowVoices h.1
    record {
      voice1 = span_narrow _ fits.short fits.voice1;
      voice2 = span_narrow _ fits.short fits.voice2;
      voice3 = span_narrow _ fits.short fits.voice3;
    }
  where
    span_narrow : (s : Span) → length f ≤ 65536 → VoiceFits f s → NarrowSpan s
    span_narrow s short h = record { from = omega (arith, h.2); len = omega (arith, h.2) }
