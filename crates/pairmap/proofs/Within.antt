-- How great the map of a pair gets.
-- note-low        a note lasts at most 672 times the value that it goes by
-- within-single   a pair is an event at most: its map is Within 1
use Prim.Native.Nat.{ℕ, ◌+◌, ◌/◌, ◌%◌, ◌≤◌, ◌<◌}
use mathlib.Core.Path.{◌≡◌, sym, subst}
use native.Mathlib.Omega.{arith}
use native.Mathlib.Decide.{ℕ_discrete}
use lib.Dec.{eqb, leb, leb→le, lit≤}
use Rattle.logic.specs.Cases.{cases}
use Rattle.logic.specs.Every.{every_at}
use Rattle.command.specs.Others.{tempo_of}
use Rattle.pair.specs.Pairs.{meaning_of}
use Rattle.clock.specs.Lengths.{length_of}
use Rattle.clock.specs.Settings.{setting_of}
use Rattle.timemap.specs.Maps.{Left}
use Rattle.timemap.specs.Small.{Low}
use Rattle.timemap.proofs.Within.{Within}
use Rattle.pairmap.specs.Pairs.{ones, multiples, leaving, setting_map, single, note_map}
use Rattle.pairmap.specs.Linear.{byte_length, single-note, single-command}

pub note-low : (a b : ℕ) → a < 256 → a % 4 ≡ 0 → length_of ones (meaning_of a b) ≤ 672
unfolding length_of
note-low a b h p = rw p (leb→le (byte_length ones a) 672 (every_at (λ k. leb (byte_length ones k) 672) 256 tt a h))

within-multiples : (t l v : ℕ) → t + l + v ≤ 672 → Within 1 (multiples t l v)
within-multiples t l v h = record { peak = omega arith; tempo = tt; utl = tt; utv = tt }

note-within : (a n : ℕ) → n ≤ 672 → Within 1 (note_map a n)
note-within a n h =
    cases (eqb (a / 4 % 8) 1)
    (λ s. cases (eqb (a / 32 % 2) 0) (λ t. rw (s, t) (within-multiples 0 n 0 (omega arith)))
    (λ t. rw (s, t) (within-multiples 0 0 n (omega arith))))
    (λ s. rw s (within-multiples n 0 0 (omega arith)))

within-leaving : (t l v : Left) → Low t → Low l → Low v → Within 1 (leaving t l v)
within-leaving t l v p q r = record { peak = omega arith; tempo = p; utl = q; utv = r }

setting_within : (a b : ℕ) → b < 256 → Within 1 (setting_map (setting_of a b))
setting_within a b h =
    let low : tempo_of b ≤ 256 = cases (eqb b 0) (λ e. rw e (lit≤ tt)) (λ e. rw e (omega arith)) in
    cases (eqb a 0x06) (λ s. rw s (within-leaving _ _ _ low tt tt))
    (λ s. cases (eqb a 0x16) (λ t. rw (s, t) (within-leaving _ _ _ tt (omega arith) tt))
    (λ t. cases (eqb a 0xF6) (λ u. rw (s, t, u) (within-leaving _ _ _ tt tt (omega arith)))
    (λ u. rw (s, t, u) (within-leaving _ _ _ tt tt tt))))

pub within-single : (a b : ℕ) → a < 256 → b < 256 → Within 1 (single (meaning_of a b))
within-single a b ha hb =
    elim (ℕ_discrete (a % 4) 0) [
      | yes p ↦
          subst (Within 1) (sym (single-note a b ha p)) (note-within a (length_of ones (meaning_of a b)) (note-low a b ha p))
      | no p ↦ subst (Within 1) (sym (single-command a b ha hb p)) (setting_within a b hb)
    ]
