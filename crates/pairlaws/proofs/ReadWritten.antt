-- What a pair means is written, as document 01 says that the writer does: for all 65,536 pairs.
-- written_as_lem   for every pair of bytes
use Prim.Native.Nat.{ℕ, ◌+◌, ◌*◌, ◌-◌, ◌/◌, ◌%◌, ◌≤◌, ◌<◌}
use mathlib.Core.Path.{◌≡◌, sym, ◌∙◌, ap, subst}
use mathlib.Core.Bool.{Bool, true, false, ◌&&◌}
use mathlib.Core.List.{List, [], ◌∷◌}
use native.Mathlib.Omega.{arith}
use native.Mathlib.Decide.{ℕ_discrete, dec_lt}
use lib.Dec.{T, eqb}
use lib.IntN.{pos, negsuc, sub_ℕ}
use borrow.Author.Tests.{eq-eqb, ne_eqb, eqb-true, eqb-false, lt-ltb, le-ltb, le-leb, lt-leb}
use Rattle.logic.specs.Cases.{cases}
use Rattle.logic.specs.Truth.{neither}
use Rattle.refusals.specs.Numbers.{Outcome}
use Rattle.refusals.specs.Numbers.Outcome.{accepted}
use Rattle.meaning.specs.declared.Meaning.{Meaning}
use Rattle.meaning.specs.declared.Meaning.TheVariants as M
use Rattle.meaning.specs.declared.Meaning.TheVariants.{Pw, Dtn}
use Rattle.logic.specs.Every.{every, every_at, all_left, all_right, among}
use Rattle.note.specs.Reading.{note_of}
use Rattle.note.specs.Preferred.{preferred_first, preferred_second}
use Rattle.note.proofs.Back.{read-note_writes}
use Rattle.commandsigns.specs.Signs.{detuning_of, jif_outcome}
use Rattle.command.specs.Others.{joined_outcome}
use Rattle.command.proofs.Firsts.{singles, joined_as}
use Rattle.spelling.specs.Counts.{joined}
use Rattle.pair.specs.Pairs.{meaning_of}
use Rattle.pair.specs.Preferred.{preferred}
use Rattle.pairlaws.proofs.FirstBytes.{other-meaning, pw_meaning}
use Rattle.pairlaws.proofs.Read.{WrittenAs, written_as, tested}

abbrev every_of : List ℕ → (ℕ → Bool) → Bool
every_of [] f = true
every_of (k ∷ ks) f = f k && every_of ks f

every_of_lem : (ks : List ℕ) (f : ℕ → Bool) → T (every_of ks f) → (a : ℕ) → among ks a ≡ true → T (f a)
every_of_lem [] f t a e = absurd (let z : ◌≡◌ {A = ℕ} 0 1 = cc in omega arith)
every_of_lem (k ∷ ks) f t a e =
    cases (eqb a k) (λ q. rw (eqb-true a k q) (all_left (f k) (every_of ks f) t))
    (λ q. every_of_lem ks f (all_right (f k) (every_of ks f) t) a (rw q at e))

abbrev row : ℕ → Bool
row a = every (λ b. written_as a b (meaning_of a b)) 256

singles-written : T (every_of (1 ∷ singles) row)
singles-written = tt

in_row : (a b : ℕ) → b < 256 → T (row a) → WrittenAs a b (meaning_of a b)
in_row a b h t = tested a b (meaning_of a b) (every_at (λ k. written_as a k (meaning_of a k)) 256 t b h)

plain-preferred : (a b : ℕ) → (a % 4 ≡ 0 → ⊥) → (a ≡ 0xA6 → ⊥) → (a ≡ 0x2E → ⊥) → preferred a b ≡ record { first = a; second = b }
plain-preferred a b note tps rtp = rw (ne_eqb (a % 4) 0 note, ne_eqb a 0xA6 tps, ne_eqb a 0x2E rtp)

joined_writes : (v most base step a b : ℕ) → v ≤ most → base + step * (v / 256) ≡ a → v % 256 ≡ b
    → joined v most base step ≡ accepted (record { first = a; second = b })
joined_writes v most base step a b low first second = rw (le-leb v most low, first, second)

-- what is refused is not written, so nothing is to be shown
with_meaning : (a b : ℕ) (o : Outcome Meaning) → meaning_of a b ≡ o → WrittenAs a b o → WrittenAs a b (meaning_of a b)
with_meaning a b o e w = subst (WrittenAs a b) (sym e) w

module _ (a b : ℕ) (ha : a < 256) (hb : b < 256) where
  jif-written : a % 64 ≡ 0x3E → WrittenAs a b (jif_outcome (a / 64 * 256 + b))
  jif-written e =
      elim (dec_lt 757 (a / 64 * 256 + b)) [
        | no low ↦
            let v = a / 64 * 256 + b in
            let small : v ≤ 757 = omega arith in
            let up : sub_ℕ v 0 ≡ pos v = rw (le-ltb v 0 (omega arith)) (ap pos (omega arith)) in
            rw (le-leb v 757 small, up, le-leb v 757 small, plain)
            (joined_writes v 1023 0x3E 64 a b (omega arith) (omega arith) (omega arith))
        | yes high ↦
            elim (dec_lt 823 (a / 64 * 256 + b)) [
              | no low ↦ rw (lt-leb (a / 64 * 256 + b) 757 high, le-leb (a / 64 * 256 + b) 823 (omega arith)) tt
              | yes top ↦
                  let v = a / 64 * 256 + b in
                  let down : sub_ℕ v 1024 ≡ negsuc (1023 - v) = rw (lt-ltb v 1024 (omega arith)) (ap negsuc (omega arith)) in
                  let slot : 1024 - (1023 - v + 1) ≡ v = omega arith in
                  rw (lt-leb v 757 high, lt-leb v 823 top, down, le-leb (1023 - v + 1) 200 (omega arith), slot, plain)
                  (joined_writes v 1023 0x3E 64 a b (omega arith) (omega arith) (omega arith))
            ]
      ]
    where
      plain : preferred a b ≡ record { first = a; second = b }
      plain = plain-preferred a b (λ z. omega (arith, e)) (λ z. omega (arith, e)) (λ z. omega (arith, e))

  -- DTN with its sign bit clear, and set
  dtn-written : a % 16 ≡ 0x0A → WrittenAs a b (accepted (Dtn (detuning_of (a / 32 * 256 + b) (a / 16 % 2))))
  dtn-written e =
      elim (ℕ_discrete (a / 16 % 2) 1) [
        | no clear ↦
            let v = a / 32 * 256 + b in
            let up : sub_ℕ v 0 ≡ pos v = rw (le-ltb v 0 (omega arith)) (ap pos (omega arith)) in
            let first : 0x0A + 32 * (v / 256) ≡ a = omega arith in
            let second : v % 256 ≡ b = omega arith in
            rw (ne_eqb (a / 16 % 2) 1 clear, up, le-leb v 2047 (omega arith), plain, first, second)
        | yes set ↦
            let v = a / 32 * 256 + b in
            let down : sub_ℕ v 2048 ≡ negsuc (2047 - v) = rw (lt-ltb v 2048 (omega arith)) (ap negsuc (omega arith)) in
            let slot : 2048 - (2047 - v + 1) ≡ v = omega arith in
            rw (set, down, le-leb (2047 - v + 1) 2048 (omega arith), slot, plain)
            (joined_writes v 2047 0x1A 32 a b (omega arith) (omega arith) (omega arith))
      ]
    where
      plain : preferred a b ≡ record { first = a; second = b }
      plain = plain-preferred a b (λ z. omega (arith, e)) (λ z. omega (arith, e)) (λ z. omega (arith, e))

  joined-written : (a % 4 ≡ 0 → ⊥) → among singles a ≡ false → WrittenAs a b (joined_outcome a b)
  joined-written note none =
      rw (joined_as a b ha)
      (elim (ℕ_discrete (a % 64) 0x1E) [
        | yes ms ↦
            rw (ms, plain-preferred a b note (λ z. omega arith) (λ z. omega arith))
            (joined_writes (a / 64 * 256 + b) 1023 0x1E 64 a b (omega arith) (omega arith) (omega arith))
        | no q ↦ elim (ℕ_discrete (a % 64) 0x3E) [
          | yes jif ↦ rw (ne_eqb (a % 64) 0x1E q, jif) (jif-written jif)
          | no r ↦ elim (ℕ_discrete (a % 16) 0x0A) [
            | yes dtn ↦ rw (ne_eqb (a % 64) 0x1E q, ne_eqb (a % 64) 0x3E r, dtn) (dtn-written dtn)
            | no s ↦ elim (ℕ_discrete (a % 4) 3) [
              | yes por ↦
                  rw (ne_eqb (a % 64) 0x1E q, ne_eqb (a % 64) 0x3E r, ne_eqb (a % 16) 0x0A s, por, plain-preferred a b note (λ z. omega arith) (λ z. omega arith))
                  (joined_writes (a / 4 * 256 + b) 16383 0x03 4 a b (omega arith) (omega arith) (omega arith))
              | no t ↦ rw (ne_eqb (a % 64) 0x1E q, ne_eqb (a % 64) 0x3E r, ne_eqb (a % 16) 0x0A s, ne_eqb (a % 4) 3 t) tt
            ]
          ]
        ]
      ])

  pw_written_as : a % 16 ≡ 2 → WrittenAs a b (accepted (Pw (a / 16 * 256 + b)))
  pw_written_as e =
      rw (plain-preferred a b (λ z. omega arith) (λ z. omega arith) (λ z. omega arith))
      (joined_writes (a / 16 * 256 + b) 4095 0x02 16 a b (omega arith) (omega arith) (omega arith))

  note-written : a % 4 ≡ 0 → WrittenAs a b (meaning_of a b)
  note-written e =
      let is = eq-eqb (a % 4) 0 e in
      let means : meaning_of a b ≡ accepted (M.Note (note_of a b)) = rw (is) in
      let used : preferred a b ≡ record { first = preferred_first a; second = preferred_second b } = rw (is) in
      with_meaning a b (accepted (M.Note (note_of a b))) means (read-note_writes a b ha hb e ∙ ap accepted (sym used))

  rest-written : (a % 4 ≡ 0 → ⊥) → among (1 ∷ singles) a ≡ false → WrittenAs a b (meaning_of a b)
  rest-written note e =
      let none = neither (eqb a 1) (among singles a) e in
      elim (ℕ_discrete (a % 16) 2) [
        | yes pw ↦ with_meaning a b (accepted (Pw (a / 16 * 256 + b))) (pw_meaning a b ha pw) (pw_written_as pw)
        | no q ↦
            with_meaning a b (joined_outcome a b) (other-meaning a b ha note (eqb-false a 1 none.0) q none.1) (joined-written note none.1)
      ]

  pub written_as_lem : WrittenAs a b (meaning_of a b)
  written_as_lem =
      elim (ℕ_discrete (a % 4) 0) [
        | yes e ↦ note-written e
        | no note ↦
            cases (among (1 ∷ singles) a) (λ e. in_row a b hb (every_of_lem (1 ∷ singles) row singles-written a e)) (λ e. rest-written note e)
      ]
