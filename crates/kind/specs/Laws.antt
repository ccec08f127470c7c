-- Laws of kinds: numbers in their bounds for every pair of bytes.
-- same_kind, same_kind_lem   two kinds compared, and what it shows
-- kind-bad              a pair that is refused is refused with 27 or 28
-- kind-numbered         a pair's kind has a number in its bounds
use Rattle.std.specs.Prelude.{ℕ, ◌+◌, ◌*◌, ◌/◌, ◌%◌, ◌<◌, ◌≡◌, refl, Bool, true, false, ◌&&◌, ◌||◌, cond, List, [], ◌∷◌, ◌⊎◌, T, eqb, leb, ltb, pos, negsuc}
use Rattle.std.proofs.Common.{sym, ◌∙◌, subst, inl, inr, arith, eqb→eq, lt-ltb, ltb-true}
use Rattle.std.proofs.Math.IntN.{sub_ℕ}
use Rattle.std.specs.Int.Signed.{le_z}
use Rattle.meaning.specs.declared.Meaning.{Meaning}
use Rattle.meaning.specs.declared.Meaning.TheVariants.{Note, Sca, Vdp, Tps, Pvd, Pvr, Rtp, Jif}
use Rattle.logic.specs.Cases.{cases}
use Rattle.logic.specs.Facts.{◌and◌}
use Rattle.logic.specs.Every.{every_at, all_left, all_right, true_of}
use Rattle.refusals.specs.Numbers.{Outcome}
use Rattle.refusals.specs.Numbers.Outcome.{accepted}
use Rattle.note.specs.Reading.{note_of}
use Rattle.commandtable.specs.Patterns as Pattern
use Rattle.commandtable.specs.Patterns.{byte, number}
use Rattle.commandtable.specs.Codes.{Row, rows, fits_row, second_by, command_meaning, second_outcome}
use Rattle.commandsigns.specs.Signs.{out_of_range, signed_byte, sca_outcome, tps_value, tps_outcome, rtp_value, rtp_outcome, jif_outcome}
use Rattle.command.specs.Others.{pulse_rows, single_rows, joined_rows, row_found, unassigned, up_to127, joined_outcome, other_outcome}
use Rattle.command.specs.RowLaws.{picked, Each, found-holds}
use Rattle.command.specs.Pair.{command_outcome}
use Rattle.pair.specs.Pairs.{meaning_of}
use Rattle.kind.specs.declared.Kind.{Kind}
use Rattle.kind.specs.declared.Kind.TheVariants.{Event, Hed, Tal, Def, End, Cal, Hlt, Bad}
use Rattle.kind.specs.Kinds.{kind_of, Numbered}

-- a kind by its place in the enum and its number
abbrev tag : Kind → ℕ
tag Event = 0
tag (Hed n) = 1
tag Tal = 2
tag (Def k) = 3
tag End = 4
tag (Cal k) = 5
tag Hlt = 6
tag (Bad n) = 7

abbrev held : Kind → ℕ
held Event = 0
held (Hed n) = n
held Tal = 0
held (Def k) = k
held End = 0
held (Cal k) = k
held Hlt = 0
held (Bad n) = n

abbrev made : ℕ → ℕ → Kind
made t n =
    cond (eqb t 0) Event
    (cond (eqb t 1) (Hed n)
    (cond (eqb t 2) Tal
    (cond (eqb t 3) (Def n)
    (cond (eqb t 4) End
    (cond (eqb t 5) (Cal n)
    (cond (eqb t 6) Hlt (Bad n)))))))

made-back : (k : Kind) → made (tag k) (held k) ≡ k
made-back Event = refl
made-back (Hed n) = refl
made-back Tal = refl
made-back (Def k) = refl
made-back End = refl
made-back (Cal k) = refl
made-back Hlt = refl
made-back (Bad n) = refl

abbrev pub same_kind : Kind → Kind → Bool
same_kind j k = eqb (tag j) (tag k) && eqb (held j) (held k)

-- Kinds that compare as the same are the same.
pub same_kind_lem : (j k : Kind) → T (same_kind j k) → j ≡ k
same_kind_lem j k t =
    let tags = eqb→eq (tag j) (tag k) (all_left (eqb (tag j) (tag k)) (eqb (held j) (held k)) t) in
    let numbers = eqb→eq (held j) (held k) (all_right (eqb (tag j) (tag k)) (eqb (held j) (held k)) t) in
    sym (made-back j) ∙ (λ i. made (tags i) (numbers i)) ∙ made-back k

-- A test of kinds that events, 27 and 28 pass.
-- Every pair passes it, if HED with its second byte does and the second byte after 01 does.
module _ (f : Kind → Bool) (event : T (f Event)) (none : T (f (Bad 27))) (out : T (f (Bad 28))) where
  abbrev Held : Outcome Meaning → Type 0
  Held x = T (f (kind_of x))

  up-to-127 : (v : ℕ) (m : Meaning) → Held (accepted m) → Held (up_to127 v m)
  up-to-127 v m h = picked Held (leb v 127) (accepted m) out_of_range (λ t. h) out

  sca : (v : ℕ) → Held (sca_outcome v)
  sca v = picked Held (le_z (negsuc 6) (signed_byte v) && le_z (signed_byte v) (pos 7))
      (accepted (Sca (signed_byte v))) out_of_range (λ t. event) out

  tps : (v : ℕ) → Held (tps_outcome v)
  tps v = picked Held (ltb 11 (v / 16)) out_of_range (accepted (Tps (tps_value v))) (λ t. out) event

  rtp : (v : ℕ) → Held (rtp_outcome v)
  rtp v =
      picked Held (leb (v / 8) 22 && le_z (negsuc 46) (rtp_value v) && le_z (rtp_value v) (pos 47))
      (accepted (Rtp (rtp_value v))) out_of_range (λ t. event) out

  jif : (v : ℕ) → Held (jif_outcome v)
  jif v =
      picked Held (leb v 757) (accepted (Jif (sub_ℕ v 0))) (cond (leb v 823) out_of_range (accepted (Jif (sub_ℕ v 1024))))
      (λ t. event)
      (picked Held (leb v 823) out_of_range (accepted (Jif (sub_ℕ v 1024))) (λ t. out) event)

  singles : (a b : ℕ) → T (f (Hed (0 * 256 + b))) → Each Held single_rows a b
  singles a b hed =
      let v = 0 * 256 + b in
      (λ t. event)
      and (λ t. event)
      and (λ t. event)
      and (λ t. hed)
      and (λ t. event)
      and (λ t. event)
      and (λ t. event)
      and (λ t. sca v)
      and (λ t. up-to-127 v (Vdp v) event)
      and (λ t. event)
      and (λ t. event)
      and (λ t. tps v)
      and (λ t. event)
      and (λ t. up-to-127 v (Pvd v) event)
      and (λ t. up-to-127 v (Pvr v) event)
      and (λ t. event)
      and (λ t. event)
      and (λ t. event)
      and (λ t. rtp v)
      and (λ t. event)
      and tt

  joineds : (a b : ℕ) → Each Held joined_rows a b
  joineds a b =
      (λ t. event)
      and (λ t. jif (number (byte Pattern.n Pattern.n Pattern.I Pattern.I Pattern.I Pattern.I Pattern.I Pattern.O) a * 256 + b))
      and (λ t. event)
      and (λ t. event)
      and (λ t. event)
      and tt

  pair-passes : (a b : ℕ) → T (f (Hed (0 * 256 + b))) → Held (second_outcome b) → Held (meaning_of a b)
  pair-passes a b hed second =
      let third = found-holds Held joined_rows a b unassigned (joineds a b) none in
      let other = found-holds Held single_rows a b (joined_outcome a b) (singles a b hed) third in
      picked Held (eqb (a % 4) 0) (accepted (Note (note_of a b))) (command_outcome a b) (λ t. event)
      (picked Held (eqb a 1) (second_outcome b) (other_outcome a b) (λ t. second)
      (found-holds Held pulse_rows a b (row_found single_rows a b (joined_outcome a b)) (λ t. event, tt) other))

-- a refusal's number as a test
abbrev known : Kind → Bool
known Event = true
known (Hed n) = true
known Tal = true
known (Def k) = true
known End = true
known (Cal k) = true
known Hlt = true
known (Bad n) = eqb n 27 || eqb n 28

-- after 01 no row is refused, and a second byte without a row is 27
abbrev row_known : Row → ℕ → Bool
row_known r b = known (kind_of (command_meaning r.command (r.added + number r.pattern b)))

abbrev all_known : List Row → ℕ → Bool
all_known [] b = true
all_known (r ∷ rs) b = row_known r b && all_known rs b

second-known : (rs : List Row) (b : ℕ) → T (all_known rs b)
    → T (known (kind_of (command_meaning (second_by rs b).command (second_by rs b).value)))
second-known [] b t = tt
second-known (r ∷ rs) b t =
    cases (fits_row r b) (λ e. rw e (all_left (row_known r b) (all_known rs b) t))
    (λ e. rw e (second-known rs b (all_right (row_known r b) (all_known rs b) t)))

either : (s t : Bool) {A B : Type 0} → (T s → A) → (T t → B) → T (s || t) → A ⊎ B
either true t f g h = inl (f tt)
either false t f g h = inr (g h)

-- A pair that is refused is refused with 27 or 28, whatever its two numbers are.
pub kind-bad : (a b n : ℕ) → kind_of (meaning_of a b) ≡ Bad n → (n ≡ 27) ⊎ (n ≡ 28)
kind-bad a b n e =
    either (eqb n 27) (eqb n 28) (eqb→eq n 27) (eqb→eq n 28)
    (subst (λ (k : Kind). T (known k)) e (pair-passes known tt tt tt a b tt (second-known rows b tt)))

-- the other bounds as a test
abbrev bounded : Kind → Bool
bounded Event = true
bounded (Hed n) = ltb n 256
bounded Tal = true
bounded (Def k) = ltb k 24
bounded End = true
bounded (Cal k) = ltb k 24
bounded Hlt = true
bounded (Bad n) = true

pair-bounded : (a b : ℕ) → b < 256 → T (bounded (kind_of (meaning_of a b)))
pair-bounded a b h =
    let v = 0 * 256 + b in
    let hed : T (ltb v 256) = rw (lt-ltb v 256 (omega arith)) tt in
    pair-passes bounded tt tt tt a b hed (every_at (λ k. bounded (kind_of (second_outcome k))) 256 tt b h)

numbered_by : (k : Kind) → T (bounded k) → ((n : ℕ) → k ≡ Bad n → (n ≡ 27) ⊎ (n ≡ 28)) → Numbered k
numbered_by Event t bad = tt
numbered_by (Hed n) t bad = ltb-true n 256 (true_of (ltb n 256) t)
numbered_by Tal t bad = tt
numbered_by (Def k) t bad = ltb-true k 24 (true_of (ltb k 24) t)
numbered_by End t bad = tt
numbered_by (Cal k) t bad = ltb-true k 24 (true_of (ltb k 24) t)
numbered_by Hlt t bad = tt
numbered_by (Bad n) t bad = bad n refl

-- A pair whose second number is a byte has a kind whose number is in its bounds.
pub kind-numbered : (a b : ℕ) → b < 256 → Numbered (kind_of (meaning_of a b))
kind-numbered a b h = numbered_by (kind_of (meaning_of a b)) (pair-bounded a b h) (kind-bad a b)
