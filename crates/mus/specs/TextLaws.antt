-- Laws of a text line that a caller names.
-- line-once      no two answers have the same outcome
-- line_refused   a refused file's refusal comes first, whatever the number
-- NamesLine      a span names a line of the paper: the text's line with a number from 1 to 5
-- line-text      the span that is given out for a number names that line
use Rattle.std.specs.Prelude.{Result, Option, Some, None, ℕ, ◌+◌, ◌-◌, ◌≤◌, ◌≡◌, true, List, eqb}
use Rattle.std.proofs.Common.{sym, arith, lit≤, eqb-true}
use Rattle.std.proofs.Math.Path.{subst}
use Rattle.logic.specs.Cases.{cases}
use Rattle.fields.specs.declared.Span.{Span}
use Rattle.fields.specs.Parts.{part_of}
use Rattle.refusals.specs.Numbers.Outcome.{accepted, refused}
use Rattle.refusals.specs.Laws.{outcome-once, accepted-once}
use Rattle.container.specs.Head.{head_of, voices_end}
use Rattle.container.specs.Text.{line}
use Rattle.container.specs.Laws.{lines-part}
use Rattle.mus.specs.declared.Song.{Song}
use Rattle.refusals.specs.declared.Refusal.{Refusal}
use Rattle.refusals.specs.Numbers.{outcome_of}
use Rattle.mus.specs.Song.{mus_outcome}
use Rattle.mus.specs.Text.{song_line, line_asked}
use Rattle.mus.specs.Acceptance.{song_of, then_given, accepted-clear}

-- one line and no line are two places
no_line_lem : {s : Span} → ◌≡◌ {A = Option Span} (Some s) None → ⊥
no_line_lem e = let z : ◌≡◌ {A = ℕ} 0 1 = cc in omega arith

-- Two answers that have one outcome are one answer.
pub line-once : (a b : Result (Option Span) Refusal) → outcome_of a ≡ outcome_of b → a ≡ b
line-once = outcome-once

module _ (f : List ℕ) (n : ℕ) where
  -- A refused file is answered with its refusal, for a number that no line has too.
  pub line_refused : (number place : ℕ) → mus_outcome f ≡ refused number place → line_asked f n ≡ refused number place
  unfolding line_asked
  line_refused number place e = rw e

  -- The number is from 1 to 5, and the span's bytes are the line with that number in the text that comes
  -- after the voices.
  abbrev pub NamesLine : Span → Type 0
  NamesLine s = (1 ≤ n) × (n ≤ 5) × (part_of f s ≡ line f (voices_end (head_of f)) (n - 1))

  named : (k : ℕ) (s t : Span) → k ≤ 4 → eqb n (k + 1) ≡ true → Some t ≡ Some s
      → part_of f t ≡ line f (voices_end (head_of f)) k → NamesLine s
  named k s t small a e part =
      let is = eqb-true n (k + 1) a in
      let same : t ≡ s = cc in
      let before : n - 1 ≡ k = omega (arith, is) in
      (omega (arith, is), omega (arith, is), rw (before, ← same) part)

  -- The span that is given out for a number names the line with that number.
  pub line-text : (s : Span) → line_asked f n ≡ accepted (Some s) → NamesLine s
  unfolding line_asked song_of
  line-text s e =
      let given = then_given (mus_outcome f) (λ s. accepted (song_line s n)) (Some s) e in
      let song : song_of f ≡ given.value = (accepted-clear f given.value given.was).1 in
      let is : song_line (song_of f) n ≡ Some s =
      subst (λ (x : Song). song_line x n ≡ Some s) (sym song) (accepted-once given.gives) in
      let parts = lines-part f in
      cases (eqb n 1) (λ a. named 0 s _ (lit≤ tt) a (rw a at is) parts.0)
      (λ a. cases (eqb n 2) (λ b. named 1 s _ (lit≤ tt) b (rw (a, b) at is) parts.1)
      (λ b. cases (eqb n 3) (λ c. named 2 s _ (lit≤ tt) c (rw (a, b, c) at is) parts.2)
      (λ c. cases (eqb n 4) (λ d. named 3 s _ (lit≤ tt) d (rw (a, b, c, d) at is) parts.3)
      (λ d. cases (eqb n 5) (λ g. named 4 s _ (lit≤ tt) g (rw (a, b, c, d, g) at is) parts.4)
      (λ g. absurd (no_line_lem (sym (rw (a, b, c, d, g) at is))))))))
