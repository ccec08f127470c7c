-- A text line that is given out lies in the file, so that a caller may read its bytes there.
-- line-inside   the line and the byte after it lie in the file
use Rattle.std.specs.Prelude.{ℕ, ◌+◌, ◌<◌, ◌≡◌, List, eqb, length}
use Rattle.std.proofs.Common.{ap, subst, arith, length-append, length-drop}
use Rattle.logic.specs.Cases.{cases}
use Rattle.fields.specs.declared.Span.{Span}
use Rattle.refusals.specs.Numbers.Outcome.{accepted}
use Rattle.refusals.specs.Laws.{accepted-once}
use Rattle.refusals.specs.Tests.{None}
use Rattle.container.specs.Head.{head_of, voices_end}
use Rattle.container.specs.Text.{text_of}
use Rattle.container.specs.Layout.{layout_of, container_tests}
use Rattle.container.specs.Laws.{text-whole}
use Rattle.mus.specs.declared.Song.{Song}
use Rattle.mus.specs.Song.{mus_outcome}
use Rattle.mus.specs.Text.{song_line, line_asked}
use Rattle.std.specs.Prelude.{Option, Some, None as no_line}
use Rattle.mus.specs.Acceptance.{song_of, then_given, accepted-clear}

module _ (P : Span → Type 0) (x : Song) where
  abbrev EachLine : Type 0
  EachLine = P x.line1 × P x.line2 × P x.line3 × P x.line4 × P x.line5

  one : (s t : Span) → Some t ≡ Some s → P t → P s
  one s t e h = let same : t ≡ s = cc in subst P same h

  -- what holds of each line of a song holds of the line that a number names
  each_line : EachLine → (n : ℕ) (s : Span) → song_line x n ≡ Some s → P s
  each_line h n s e =
      cases (eqb n 1) (λ a. one s x.line1 (rw a at e) h.0)
      (λ a. cases (eqb n 2) (λ b. one s x.line2 (rw (a, b) at e) h.1)
      (λ b. cases (eqb n 3) (λ c. one s x.line3 (rw (a, b, c) at e) h.2)
      (λ c. cases (eqb n 4) (λ d. one s x.line4 (rw (a, b, c, d) at e) h.3)
      (λ d. cases (eqb n 5) (λ g. one s x.line5 (rw (a, b, c, d, g) at e) h.4)
      (λ g. absurd (no_line_lem (rw (a, b, c, d, g) at e)))))))
    where
      no_line_lem : ◌≡◌ {A = Option Span} no_line (Some s) → ⊥
      no_line_lem q = let z : ◌≡◌ {A = ℕ} 0 1 = cc in omega arith

abbrev Inside : List ℕ → Span → Type 0
Inside f s = s.from + s.len < length f

lines-inside : (f : List ℕ) → None (container_tests f) → EachLine (Inside f) (song_of f)
unfolding song_of layout_of text_of
lines-inside f none =
    let at = voices_end (head_of f) in
    let whole = simp length-append at (ap length (text-whole f none)) in
    let rest = length-drop at f in (
      omega (arith, whole, rest),
      omega (arith, whole, rest),
      omega (arith, whole, rest),
      omega (arith, whole, rest),
      omega (arith, whole, rest),
    )

-- The line that is given out for a number, and the byte after it, lie in the file.
pub line-inside : (f : List ℕ) (n : ℕ) (s : Span) → line_asked f n ≡ accepted (Some s) → s.from + s.len < length f
unfolding line_asked
line-inside f n s e =
    let given = then_given (mus_outcome f) (λ s. accepted (song_line s n)) (Some s) e in
    let c = accepted-clear f given.value given.was in
    let is : song_line given.value n ≡ Some s = accepted-once given.gives in
    each_line (Inside f) given.value (subst (EachLine (Inside f)) c.1 (lines-inside f c.0.container)) n s is
