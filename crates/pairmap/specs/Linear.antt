-- Laws of the map of a pair: what it says of the pair's length and of the values after it.
-- byte_length        a note's length by its first byte
-- Linear            a pair lasts the tempo times what it lasts at tempo 1, and so for UTL and UTV
-- pair_linear       so does every pair of two bytes
-- single-length     its map says how long such a pair lasts
-- single-values     the map says which values hold after a pair
-- single-note, single-command   the map by the two bytes
use Rattle.std.specs.Prelude.{ℕ, ◌+◌, ◌*◌, ◌/◌, ◌%◌, ◌<◌, ◌≡◌, refl, Bool, T, eqb}
use Rattle.std.proofs.Common.{sym, ◌∙◌, arith, eqb→eq, ne_eqb}
use Rattle.std.proofs.Math.Decide.{ℕ_discrete}
use Rattle.meaning.specs.declared.Meaning.{Meaning}
use Rattle.logic.specs.Cases.{cases}
use Rattle.logic.specs.Every.{every, every_at}
use Rattle.refusals.specs.Numbers.{Outcome}
use Rattle.note.specs.Reading.{length_in_byte}
use Rattle.pair.specs.Pairs.{meaning_of}
use Rattle.clock.specs.declared.Values.{Values}
use Rattle.clock.specs.Timing.{Timing, lasts, sets_tempo, sets_utl, sets_utv, no_time, timing_of}
use Rattle.clock.specs.Lengths.{plain_length, shaped, length_of, set_by, values_after}
use Rattle.clock.specs.Shares.{shares}
use Rattle.clock.proofs.Shares.{shares_are}
use Rattle.clock.specs.Settings.{setting_of, timing_command, length-command}
use Rattle.timemap.specs.declared.TimeMap.{TimeMap}
use Rattle.timemap.specs.Maps.{left, length_by, values_by}
use Rattle.pairmap.specs.Pairs.{tempo1, utl1, utv1, ones, tempo_left, utl_left, utv_left, multiples}
use Rattle.pairmap.specs.Pairs.{setting_map, single, note_map}

abbrev pub byte_length : Values → ℕ → ℕ
byte_length q a = shaped (length_in_byte a).shape (plain_length q (length_in_byte a).duration)

unfoldable pub Linear : Outcome Meaning → Type 0
Linear m = (q : Values) → length_of q m ≡ length_of tempo1 m * q.tempo + length_of utl1 m * q.utl + length_of utv1 m * q.utv

note_linear : (q : Values) (a : ℕ)
    → byte_length q a ≡ byte_length tempo1 a * q.tempo + byte_length utl1 a * q.utl + byte_length utv1 a * q.utv
note_linear q a =
    cases (eqb a 0) (λ z. rw z (omega arith))
    (λ z. cases (eqb (a / 4 % 8) 0)
    (λ s. cases (eqb (a / 128) 0) (λ t. rw (z, s, t) (omega arith)) (λ t. rw (z, s, t) (omega arith)))
    (λ s. cases (eqb (a / 4 % 8) 1)
    (λ u. cases (eqb (a / 32 % 2) 0)
    (λ v. cases (eqb (a / 128) 0) (λ t. rw (z, s, u, v, t) (omega arith)) (λ t. rw (z, s, u, v, t) (omega arith)))
    (λ v. rw (z, s, u, v) (omega arith)))
    (λ u.
    let one : shares a * 1 ≡ shares a = omega arith in
    let none : shares a * 0 ≡ 0 = omega arith in
    rw (z, s, u, ← shares_are q a, ← shares_are tempo1 a, ← shares_are utl1 a, ← shares_are utv1 a, one, none) (omega arith))))

-- Every pair of two bytes lasts the tempo times what it lasts at tempo 1, and UTL times what it lasts at UTL
-- 1, and UTV times what it lasts at UTV 1.
pub pair_linear : (a b : ℕ) → a < 256 → b < 256 → Linear (meaning_of a b)
unfolding Linear
pair_linear a b ha hb q =
    elim (ℕ_discrete (a % 4) 0) [
      | yes p ↦ unfold length_of in rw p (note_linear q a)
      | no p ↦
          let zero : (v : Values) → length_of v (meaning_of a b) ≡ 0 = λ v. length-command v a b ha hb p in
          rw (zero q, zero tempo1, zero utl1, zero utv1) (omega arith)
    ]

-- The map of such a pair says how long it lasts.
pub single-length : (m : Outcome Meaning) → Linear m → (q : Values) → length_of q m ≡ length_by (single m) q
unfolding Linear length_by single
single-length m h q = h q ∙ omega arith

-- The map of a pair says which values hold after it.
pub single-values : (m : Outcome Meaning) (q : Values) → values_after q m ≡ values_by (single m) q
unfolding values_after values_by single
single-values m q = go (timing_of m)
  where
    go : (t : Timing)
        → set_by q t
        ≡ record {
          tempo = left (tempo_left t) q.tempo;
          utl = left (utl_left t) q.utl;
          utv = left (utv_left t) q.utv;
        }
    go (lasts n) = refl
    go (sets_tempo v) = refl
    go (sets_utl v) = refl
    go (sets_utv v) = refl
    go no_time = refl

-- a note goes by one value
abbrev split : Values → (TimeMap → ℕ) → ℕ → Bool
split q part a = eqb (byte_length q a) (part (note_map a (byte_length ones a)))

by_one : (q : Values) (part : TimeMap → ℕ) → T (every (split q part) 256) → (a : ℕ) → a < 256
    → byte_length q a ≡ part (note_map a (byte_length ones a))
by_one q part t a h = eqb→eq (byte_length q a) (part (note_map a (byte_length ones a))) (every_at (split q part) 256 t a h)

note-multiples : (a n : ℕ) → note_map a n ≡ multiples (note_map a n).tempos (note_map a n).utls (note_map a n).utvs
note-multiples a n =
    cases (eqb (a / 4 % 8) 1) (λ s. cases (eqb (a / 32 % 2) 0) (λ t. rw (s, t)) (λ t. rw (s, t))) (λ s. rw s)

-- The map of a note is that of its first byte, by its length where all three values are 1.
pub single-note : (a b : ℕ) → a < 256 → a % 4 ≡ 0 → single (meaning_of a b) ≡ note_map a (length_of ones (meaning_of a b))
unfolding single length_of
single-note a b h p =
    let tempos = by_one tempo1 (λ x. x.tempos) tt a h in
    let utls = by_one utl1 (λ x. x.utls) tt a h in
    let utvs = by_one utv1 (λ x. x.utvs) tt a h in
    rw (p, tempos, utls, utvs) (sym (note-multiples a (byte_length ones a)))

-- The map of a command is that of what it sets.
pub single-command : (a b : ℕ) → a < 256 → b < 256 → (a % 4 ≡ 0 → ⊥) → single (meaning_of a b) ≡ setting_map (setting_of a b)
unfolding single
single-command a b ha hb p =
    rw (
      length-command tempo1 a b ha hb p,
      length-command utl1 a b ha hb p,
      length-command utv1 a b ha hb p,
      ne_eqb (a % 4) 0 p,
      timing_command a b ha hb,
    )
