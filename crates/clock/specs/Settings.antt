-- What a pair sets, by its two bytes: source 004's rows of TEM, UTL and UTV, and that no other pair sets
-- anything.
-- setting_of        06 sets the tempo, 16 UTL, F6 UTV, to the second byte; 'TEM 0 means 256'
-- timing_command   so for a command by what it means
-- values_are       the values after a pair are those so set
-- length-command   a command's length: 'commands take 0'
use Rattle.std.specs.Prelude.{ℕ, ◌+◌, ◌*◌, ◌%◌, ◌<◌, ◌≡◌, refl, Bool, true, false, cond, List, T, eqb, leb, drop}
use Rattle.std.proofs.Common.{sym, ◌∙◌, arith, zero-add, ne_eqb, eqb-true}
use Rattle.std.proofs.Math.Decide.{ℕ_discrete}
use Rattle.std.proofs.Math.IntN.{sub_ℕ}
use Rattle.meaning.specs.declared.Meaning.{Meaning}
use Rattle.meaning.specs.declared.Meaning.TheVariants.{Vdp, Pvd, Pvr, Jif}
use Rattle.logic.specs.Cases.{cases}
use Rattle.logic.specs.Every.{every, every_at, same, same_equal}
use Rattle.refusals.specs.Numbers.{Outcome}
use Rattle.refusals.specs.Numbers.Outcome.{accepted}
use Rattle.commandtable.specs.Patterns.{Symbol, O, I, n, byte, fits, number}
use Rattle.commandtable.specs.Codes.{second_outcome}
use Rattle.commandsigns.specs.Signs.{out_of_range, sca_outcome, tps_outcome, rtp_outcome, jif_outcome}
use Rattle.command.specs.Others.{pulse_rows, single_rows, joined_rows, row_found, unassigned, up_to127, tempo_of, joined_outcome, other_outcome}
use Rattle.command.specs.RowLaws.{picked, Each, found-holds}
use Rattle.command.specs.Pair.{command_outcome}
use Rattle.pair.specs.Pairs.{meaning_of}
use Rattle.clock.specs.declared.Values.{Values}
use Rattle.clock.specs.Timing.{Timing, lasts, sets_tempo, sets_utl, sets_utv, no_time, timing_of}
use Rattle.clock.specs.Lengths.{length_of, set_by, values_after}

abbrev pub setting_of : ℕ → ℕ → Timing
setting_of a b = cond (eqb a 0x06) (sets_tempo (tempo_of b)) (cond (eqb a 0x16) (sets_utl b) (cond (eqb a 0xF6) (sets_utv b) no_time))

abbrev Untimed : Outcome Meaning → Type 0
Untimed x = timing_of x ≡ no_time

abbrev untimed : Timing → Bool
untimed (lasts m) = false
untimed (sets_tempo v) = false
untimed (sets_utl v) = false
untimed (sets_utv v) = false
untimed no_time = true

no-time : (t : Timing) → T (untimed t) → t ≡ no_time
no-time (lasts m) h = absurd h
no-time (sets_tempo v) h = absurd h
no-time (sets_utl v) h = absurd h
no-time (sets_utv v) h = absurd h
no-time no_time h = refl

ranged : (f : ℕ → Outcome Meaning) → T (every (λ k. untimed (timing_of (f k))) 256) → (b : ℕ) → b < 256 → Untimed (f (0 * 256 + b))
ranged f t b h = no-time (timing_of (f (0 * 256 + b))) (every_at (λ k. untimed (timing_of (f k))) 256 t (0 * 256 + b) (omega arith))

-- a row of one byte, which another byte does not fit
missed : {A : Type 0} (p : List Symbol) (k : ℕ) → T (every (λ j. same (fits p j) (eqb j k)) 256) → (a : ℕ) → a < 256 → (a ≡ k → ⊥)
    → fits p a ≡ true → A
missed p k t a h ne e =
    absurd (ne (eqb-true a k (sym (same_equal (fits p a) (eqb a k) (every_at (λ j. same (fits p j) (eqb j k)) 256 t a h)) ∙ e)))

jif-untimed : (v : ℕ) → Untimed (jif_outcome v)
jif-untimed v =
    picked Untimed (leb v 757) (accepted (Jif (sub_ℕ v 0))) (cond (leb v 823) out_of_range (accepted (Jif (sub_ℕ v 1024)))) (λ t. refl)
    (picked Untimed (leb v 823) out_of_range (accepted (Jif (sub_ℕ v 1024))) (λ t. refl) refl)

other-untimed : (a b : ℕ) → a < 256 → b < 256 → (a ≡ 0x06 → ⊥) → (a ≡ 0x16 → ⊥) → (a ≡ 0xF6 → ⊥) → Untimed (other_outcome a b)
other-untimed a b ha hb tem utl utv =
    -- the rows from one command on, last first
    let from-rtp : Each Untimed (drop 18 single_rows) a b = (λ t. ranged rtp_outcome tt b hb, (λ t. refl, tt)) in
    let from_max : Each Untimed (drop 15 single_rows) a b = (λ t. refl, (missed (byte I I I I O I I O) 0xF6 tt a ha utv, (λ t. refl, from-rtp))) in
    let from_pvd : Each Untimed (drop 13 single_rows) a b = (λ t. ranged (λ k. up_to127 k (Pvd k)) tt b hb, (λ t. ranged (λ k. up_to127 k (Pvr k)) tt b hb, from_max)) in
    let from_vrt : Each Untimed (drop 9 single_rows) a b = (λ t. refl, (λ t. refl, (λ t. ranged tps_outcome tt b hb, (λ t. refl, from_pvd)))) in
    let from-sca : Each Untimed (drop 7 single_rows) a b = (λ t. ranged sca_outcome tt b hb, (λ t. ranged (λ k. up_to127 k (Vdp k)) tt b hb, from_vrt)) in
    let from_pnt : Each Untimed (drop 2 single_rows) a b = (λ t. refl, (λ t. refl, (λ t. refl, (λ t. refl, (λ t. refl, from-sca))))) in
    let from_tem : Each Untimed single_rows a b = (missed (byte O O O O O I I O) 0x06 tt a ha tem, (missed (byte O O O I O I I O) 0x16 tt a ha utl, from_pnt)) in
    let from_ms : Each Untimed joined_rows a b = (λ t. refl, (λ t. jif-untimed (number (byte n n I I I I I O) a * 256 + b), (λ t. refl, (λ t. refl, (λ t. refl, tt))))) in
    found-holds Untimed pulse_rows a b (row_found single_rows a b (joined_outcome a b)) (λ t. refl, tt)
    (found-holds Untimed single_rows a b (joined_outcome a b) from_tem (found-holds Untimed joined_rows a b unassigned from_ms refl))

-- A command's timing is what setting_of says of its two bytes.
pub timing_command : (a b : ℕ) → a < 256 → b < 256 → timing_of (command_outcome a b) ≡ setting_of a b
timing_command a b ha hb =
    elim (ℕ_discrete a 0x06) [
      | yes p ↦ rw (p, zero-add b)
      | no p ↦
          elim (ℕ_discrete a 0x16) [
            | yes q ↦ rw (q, zero-add b)
            | no q ↦
                elim (ℕ_discrete a 0xF6) [
                  | yes r ↦ rw (r, zero-add b)
                  | no r ↦
                      let coded = no-time (timing_of (second_outcome b)) (every_at (λ k. untimed (timing_of (second_outcome k))) 256 tt b hb) in
                      rw (ne_eqb a 0x06 p, ne_eqb a 0x16 q, ne_eqb a 0xF6 r)
                      (picked Untimed (eqb a 1) (second_outcome b) (other_outcome a b) (λ t. coded) (other-untimed a b ha hb p q r))
                ]
          ]
    ]

-- After a pair of bytes the values are those before it, changed as setting_of says.
pub values_are : (q : Values) (a b : ℕ) → a < 256 → b < 256 → values_after q (meaning_of a b) ≡ set_by q (setting_of a b)
unfolding values_after
values_are q a b ha hb =
    elim (ℕ_discrete (a % 4) 0) [
      | yes p ↦ rw (p, ne_eqb a 0x06 (λ e. omega arith), ne_eqb a 0x16 (λ e. omega arith), ne_eqb a 0xF6 (λ e. omega arith))
      | no p ↦ rw (ne_eqb (a % 4) 0 p, timing_command a b ha hb)
    ]

-- A pair of bytes whose first byte has low bits other than 00 has length 0.
pub length-command : (q : Values) (a b : ℕ) → a < 256 → b < 256 → (a % 4 ≡ 0 → ⊥) → length_of q (meaning_of a b) ≡ 0
unfolding length_of
length-command q a b ha hb p =
    rw (ne_eqb (a % 4) 0 p, timing_command a b ha hb)
    (cases (eqb a 0x06) (λ s. rw s)
    (λ s. cases (eqb a 0x16) (λ t. rw (s, t)) (λ t. cases (eqb a 0xF6) (λ u. rw (s, t, u)) (λ u. rw (s, t, u)))))
