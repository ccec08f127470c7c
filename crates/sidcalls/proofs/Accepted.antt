-- What acceptance shows of the numbers that are handed out: places and lengths are small.
-- narrow_header   so of a PSID or RSID file
use Prim.Native.Nat.{ℕ, ◌+◌, ◌≤◌}
use mathlib.Core.Path.{◌≡◌, sym, subst}
use mathlib.Core.Bool.{Bool, true, false, not, ◌&&◌, ◌||◌, cond}
use mathlib.Core.List.{List}
use native.Mathlib.Omega.{arith}
use lib.Dec.{eqb, lit≤}
use lib.ListN.{take, drop, length-take}
use borrow.Author.Tests.{eqb-true}
use Rattle.logic.specs.Cases.{cases}
use Rattle.fields.specs.Laws.{length_before}
use Rattle.refusals.specs.Numbers.Outcome.{accepted}
use Rattle.sidheader.specs.declared.Fields.{Fields}
use Rattle.sidheader.specs.Fields.{fields_of}
use Rattle.sidheader.specs.Payload.{addressed, after_address, whole_data, payload_of}
use Rattle.sidrefusals.specs.HeaderTests.{is_rsid}
use Rattle.sidrefusals.specs.PayloadTests.{sid_tests}
use Rattle.sid.specs.declared.Header.{Header}
use Rattle.sid.specs.Header.{header_of, span_at}
use Rattle.sid.specs.Answers.{sid_outcome}
use Rattle.sid.specs.Acceptance.{header, accepted_none, accepted-header}
use Rattle.sid.specs.Laws.{accepted-fits}
use Rattle.sidcalls.specs.Bounds.{NarrowSpan, Narrow}

-- 4 lets pass only $76 and $7C
offset-low : (x : Fields) (r : Bool) → not (eqb x.version 1 || eqb x.version 2) || r && not (eqb x.version 2) ≡ false
    → eqb x.version 1 && not (eqb x.offset 0x76) || eqb x.version 2 && not (eqb x.offset 0x7C) ≡ false
    → x.offset ≤ 0x7C
offset-low x r v4 o4 =
    cases (eqb x.offset 0x76) (λ a. omega (arith, eqb-true x.offset 0x76 a))
    (λ a. cases (eqb x.offset 0x7C) (λ b. omega (arith, eqb-true x.offset 0x7C b))
    (λ b. absurd (none (eqb x.version 1) (eqb x.version 2) v4 (rw (a, b) at o4))))
  where
    none : (one two : Bool) → not (one || two) || r && not two ≡ false → one && true || two && true ≡ false → ⊥
    none true two v o = let z : ◌≡◌ {A = ℕ} 0 1 = cc in omega arith
    none false true v o = let z : ◌≡◌ {A = ℕ} 0 1 = cc in omega arith
    none false false v o = let z : ◌≡◌ {A = ℕ} 0 1 = cc in omega arith

text_narrow : (f : List ℕ) (at : ℕ) → at ≤ 65538 → NarrowSpan (span_at f at)
text_narrow f at h =
    record { from = h; len = omega (arith, length_before 0 (take 31 (drop at f)), length-take 31 (drop at f)) }

pub narrow_header : (f : List ℕ) (h : Header) → sid_outcome f ≡ accepted h → Narrow h
unfolding sid_tests header_of payload_of
narrow_header f h e =
    let x = fields_of f in
    let none = accepted_none f h e in
    let low = offset-low x (is_rsid x) none.1.1.0 none.1.1.1.1.0 in
    let fits : (header f).load + (header f).payload.len ≤ 65536 = subst (λ (k : Header). k.load + k.payload.len ≤ 65536) (sym (accepted-header f h e)) (accepted-fits f h e) in
    subst Narrow (accepted-header f h e)
    record {
      title = text_narrow f 0x16 (lit≤ tt);
      author = text_narrow f 0x36 (lit≤ tt);
      released = text_narrow f 0x56 (lit≤ tt);
      payload = record { from = go (addressed x) low; len = omega arith };
    }
  where
    go : (b : Bool) → (fields_of f).offset ≤ 0x7C → (cond b (after_address f (fields_of f)) (whole_data (fields_of f))).from ≤ 65538
    go true l = omega arith
    go false l = omega arith
