-- A file longer than any that is accepted may be cut off: from 65,663 bytes on, the first of them give the
-- answer of them all. So a program may read the first 66,000 bytes of its input and no more.
-- cut_off   the law
use Prim.Native.Nat.{ℕ, ◌+◌, ◌-◌, ◌<◌, ◌≤◌}
use mathlib.Core.Path.{◌≡◌, refl, sym, ◌∙◌}
use mathlib.Core.Bool.{true≢false}
use mathlib.Core.List.{List}
use Rattle.std.specs.Prelude.{Ok, Err}
use native.Mathlib.Omega.{arith}
use lib.ListN.{length, take}
use lib.Seq.{length-take-le, get_or-take}
use lib.Dec.{eqb}
use borrow.Author.Tests.{lt-ltb, le-ltb, ne_eqb, eqb-true}
use Rattle.logic.specs.Cases.{cases}
use Rattle.refusals.specs.Numbers.{Outcome}
use Rattle.refusals.specs.Numbers.Outcome.{accepted}
use Rattle.refusals.specs.declared.Reason.TheVariants.{PastMemory}
use Rattle.refusals.specs.Tests.{Verdict, first_of, guarded}
use Rattle.refusals.specs.Laws.{first_failed, passed_none}
use Rattle.fields.specs.Numbers.{be16, be32}
use Rattle.sidheader.specs.declared.Fields.{Fields}
use Rattle.sidheader.specs.Fields.{fields_of}
use Rattle.sidheader.specs.Payload.{addressed, after_address, payload_of}
use Rattle.sidrefusals.specs.HeaderTests.{one, two, header_tests}
use Rattle.sidrefusals.specs.PayloadTests.{payload_tests}
use Rattle.sid.specs.Answers.{sid_outcome}
use Rattle.sid.specs.Acceptance.{header}
use Rattle.sid.proofs.Outcomes.{first_parts}

-- the fields with another size
abbrev resized : Fields → ℕ → Fields
resized x n =
    record {
      size = n;
      magic = x.magic;
      version = x.version;
      offset = x.offset;
      load = x.load;
      init = x.init;
      play = x.play;
      songs = x.songs;
      start = x.start;
      speed = x.speed;
      flags = x.flags;
      page = x.page;
      pages = x.pages;
      reserved = x.reserved;
    }

module _ (f : List ℕ) (n : ℕ) where
  be16-take : (k : ℕ) → k + 1 < n → be16 (take n f) k ≡ be16 f k
  unfolding be16
  be16-take k h = let low : k < n = omega arith in rw (get_or-take n f k 0 low, get_or-take n f (k + 1) 0 h)

  be32-take : (k : ℕ) → k + 3 < n → be32 (take n f) k ≡ be32 f k
  unfolding be32
  be32-take k h = rw (be16-take k (omega arith), be16-take (k + 2) (omega arith))

  fields-take : 124 ≤ n → n ≤ length f → fields_of (take n f) ≡ resized (fields_of f) n
  unfolding fields_of
  fields-take h k =
      rw (
        length-take-le n f k,
        be32-take 0x00 (omega arith),
        be16-take 0x04 (omega arith),
        be16-take 0x06 (omega arith),
        be16-take 0x08 (omega arith),
        be16-take 0x0A (omega arith),
        be16-take 0x0C (omega arith),
        be16-take 0x0E (omega arith),
        be16-take 0x10 (omega arith),
        be32-take 0x12 (omega arith),
        be16-take 0x76 (omega arith),
        get_or-take n f 0x78 0 (omega arith),
        get_or-take n f 0x79 0 (omega arith),
        be16-take 0x7A (omega arith),
      )

-- the header's tests look at the size only below 124 bytes
header-resized : (x : Fields) (n : ℕ) → 124 ≤ n → 124 ≤ x.size → first_of (header_tests (resized x n)) ≡ first_of (header_tests x)
header-resized x n h k = rw (le-ltb n 118 (omega arith), le-ltb n 124 h, le-ltb x.size 118 (omega arith), le-ltb x.size 124 k)

-- a header that passes has its data offset at $76 or $7C
offset-passed : (x : Fields) → first_of (header_tests x) ≡ Ok tt → x.offset ≤ 124
offset-passed x e =
    let none = passed_none (header_tests x) e in
    let version = none.1.1.0 in
    let offset = none.1.1.1.1.0 in
    cases (eqb x.offset 0x76) (λ p. omega (arith, eqb-true x.offset 0x76 p)) (λ p.
    cases (eqb x.offset 0x7C) (λ q. omega (arith, eqb-true x.offset 0x7C q)) (λ q.
    cases (one x) (λ v. absurd (true≢false (rw (v, p) at offset))) (λ v.
    cases (two x) (λ w. absurd (true≢false (rw (v, w, q) at offset))) (λ w. absurd (true≢false (rw (v, w) at version))))))

-- so long a file is past $FFFF wherever it is loaded
too_long_lem : (f : List ℕ) (x : Fields) → x.offset ≤ 124 → 65663 ≤ x.size → first_of (payload_tests x (payload_of f x)) ≡ Err PastMemory
unfolding payload_of
too_long_lem f x o h =
    let some : x.size - x.offset ≡ 0 → ⊥ = omega arith in
    cases (addressed x)
    (λ e. rw (e, le-ltb (x.size - x.offset) 3 (omega arith), lt-ltb 65536 ((after_address f x).load + (x.size - (x.offset + 2))) (omega arith)))
    (λ e. rw (e, ne_eqb (x.size - x.offset) 0 some, lt-ltb 65536 (x.load + (x.size - x.offset)) (omega arith)))

-- a long file is refused by its header or with 10
by_long : (f : List ℕ) (v : Verdict) → first_of (header_tests (fields_of f)) ≡ v → 65663 ≤ (fields_of f).size
    → sid_outcome f ≡ guarded (first_failed v (Err PastMemory)) (accepted (header f))
unfolding sid_outcome
by_long f (Ok u) e h = rw (first_parts f (fields_of f) (payload_of f (fields_of f)) refl refl, e, too_long_lem f (fields_of f) (offset-passed (fields_of f) e) h)
by_long f (Err r) e h = rw (first_parts f (fields_of f) (payload_of f (fields_of f)) refl refl, e)

either : {A : Type 0} (v : Verdict) (a b : Outcome A) → guarded (first_failed v (Err PastMemory)) a ≡ guarded (first_failed v (Err PastMemory)) b
either (Ok u) a b = refl
either (Err r) a b = refl

size-fields : (f : List ℕ) → (fields_of f).size ≡ length f
unfolding fields_of
size-fields f = refl

pub cut_off : (f : List ℕ) (n : ℕ) → 65663 ≤ n → n ≤ length f → sid_outcome (take n f) ≡ sid_outcome f
cut_off f n h k =
    let v = first_of (header_tests (fields_of f)) in
    let same = fields-take f n (omega arith) k in
    let whole : 65663 ≤ (fields_of f).size = rw (size-fields f) (omega arith) in
    let part : 65663 ≤ (fields_of (take n f)).size = rw same h in
    let head : first_of (header_tests (fields_of (take n f))) ≡ v = rw same (header-resized (fields_of f) n (omega arith) (omega arith)) in
    by_long (take n f) v head part ∙ either v (accepted (header (take n f))) (accepted (header f)) ∙ sym (by_long f v refl whole)
