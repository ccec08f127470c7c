-- Laws of maps: a map made of maps says what the bodies do together.
-- same_map              maps with the same numbers are the same
-- joined_length         two bodies last what the first lasts, and the second by the values the first leaves
-- joined-values         they leave what the second leaves of what the first leaves
-- same_start            a second pass leaves what the first left
-- joined_assoc          of three bodies, either two neighbours may be joined first
-- fixed_none, open_none        no multiples come to nothing
-- still-joined, joined-still   nothing before or after a body changes nothing
-- passes-more           one pass more is a pass, and the others after it
use Rattle.std.specs.Prelude.{ℕ, zero, suc, ◌+◌, ◌*◌, ◌≡◌, refl, Some, None}
use Rattle.std.proofs.Common.{sym, ap, arith, suc-mul, zero-mul, add-mul}
use Rattle.clock.specs.declared.Values.{Values}
use Rattle.timemap.specs.declared.TimeMap.{TimeMap}
use Rattle.timemap.specs.Maps.{Left, left, length_by, values_by, still, fixed_part, open_part, later, under}
use Rattle.timemap.specs.Maps.{plus, joined, passes}

-- Two maps with the same numbers and the same values left are the same.
pub same_map : (a b : TimeMap) → a.fixed ≡ b.fixed → a.tempos ≡ b.tempos → a.utls ≡ b.utls → a.utvs ≡ b.utvs
    → a.tempo ≡ b.tempo → a.utl ≡ b.utl → a.utv ≡ b.utv → a ≡ b
same_map a b f t l v ts ls vs =
    λ i. record { fixed = f i; tempos = t i; utls = l i; utvs = v i; tempo = ts i; utl = ls i; utv = vs i }

-- one value: n multiples after a body that has m of them
value-length : (l : Left) (m n x : ℕ) → fixed_part l n + (m + 1 * open_part l n) * x ≡ m * x + n * left l x
value-length None m n x = let e : m + 1 * n ≡ m + n = omega arith in rw e (omega (arith, add-mul m n x))
value-length (Some v) m n x = let e : m + 1 * 0 ≡ m = omega arith in rw e (omega arith)

-- Two bodies last what the first lasts, and what the second lasts by the values that the first leaves.
pub joined_length : (a b : TimeMap) (q : Values) → length_by (joined a b) q ≡ length_by a q + length_by b (values_by a q)
unfolding length_by values_by joined
joined_length a b q =
    omega (
      arith,
      value-length a.tempo a.tempos b.tempos q.tempo,
      value-length a.utl a.utls b.utls q.utl,
      value-length a.utv a.utvs b.utvs q.utv,
    )

left-later : (l m : Left) (x : ℕ) → left (later l m) x ≡ left m (left l x)
left-later l None x = refl
left-later l (Some v) x = refl

left-again : (l : Left) (x : ℕ) → left l (left l x) ≡ left l x
left-again None x = refl
left-again (Some v) x = refl

-- A second pass leaves the values that the first leaves: every pass from the second on starts with the same.
pub same_start : (b : TimeMap) (q : Values) → values_by b (values_by b q) ≡ values_by b q
unfolding values_by
same_start b q = λ i. record {
  tempo = left-again b.tempo q.tempo i;
  utl = left-again b.utl q.utl i;
  utv = left-again b.utv q.utv i;
}

-- Two bodies leave what the second leaves of the values that the first leaves.
pub joined-values : (a b : TimeMap) (q : Values) → values_by (joined a b) q ≡ values_by b (values_by a q)
unfolding values_by joined
joined-values a b q = λ i. record {
  tempo = left-later a.tempo b.tempo q.tempo i;
  utl = left-later a.utl b.utl q.utl i;
  utv = left-later a.utv b.utv q.utv i;
}

-- one value of three bodies
fixed_assoc : (l m : Left) (b c : ℕ)
    → fixed_part l b + fixed_part (later l m) c ≡ fixed_part m c + fixed_part l (b + 1 * open_part m c)
fixed_assoc None None b c = refl
fixed_assoc (Some v) None b c = let e : b + 1 * c ≡ b + c = omega arith in rw e (omega (arith, add-mul b c v))
fixed_assoc l (Some w) b c = let e : b + 1 * 0 ≡ b = omega arith in rw e (omega arith)

open_assoc : (l m : Left) (b c : ℕ) → open_part l b + open_part (later l m) c ≡ open_part l (b + 1 * open_part m c)
open_assoc None None b c = omega arith
open_assoc (Some v) None b c = refl
open_assoc l (Some w) b c = let e : b + 1 * 0 ≡ b = omega arith in rw e (omega arith)

later_assoc : (l m r : Left) → later (later l m) r ≡ later l (later m r)
later_assoc l m None = refl
later_assoc l m (Some v) = refl

-- Of three bodies, either two neighbours may be joined first.
pub joined_assoc : (a b c : TimeMap) → joined (joined a b) c ≡ joined a (joined b c)
unfolding joined
joined_assoc a b c =
    same_map (plus (plus a 1 (under a b)) 1 (under (plus a 1 (under a b)) c)) (plus a 1 (under a (plus b 1 (under b c))))
    (omega (
      arith,
      fixed_assoc a.tempo b.tempo b.tempos c.tempos,
      fixed_assoc a.utl b.utl b.utls c.utls,
      fixed_assoc a.utv b.utv b.utvs c.utvs,
    ))
    (omega (arith, open_assoc a.tempo b.tempo b.tempos c.tempos))
    (omega (arith, open_assoc a.utl b.utl b.utls c.utls))
    (omega (arith, open_assoc a.utv b.utv b.utvs c.utvs))
    (later_assoc a.tempo b.tempo c.tempo)
    (later_assoc a.utl b.utl c.utl)
    (later_assoc a.utv b.utv c.utv)

later_first : (l : Left) → later None l ≡ l
later_first None = refl
later_first (Some v) = refl

-- A body after nothing is the body.
pub still-joined : (b : TimeMap) → joined still b ≡ b
unfolding joined
still-joined b =
    same_map (plus still 1 (under still b)) b (omega arith) (omega arith) (omega arith) (omega arith)
    (later_first b.tempo) (later_first b.utl) (later_first b.utv)

-- No multiples come to nothing.
pub fixed_none : (l : Left) → fixed_part l 0 ≡ 0
fixed_none None = refl
fixed_none (Some v) = zero-mul v

-- None of them go by a value.
pub open_none : (l : Left) → open_part l 0 ≡ 0
open_none None = refl
open_none (Some v) = refl

-- Nothing after a body is the body.
pub joined-still : (a : TimeMap) → joined a still ≡ a
unfolding joined
joined-still a =
    same_map (plus a 1 (under a still)) a (omega (arith, fixed_none a.tempo, fixed_none a.utl, fixed_none a.utv))
    (omega (arith, open_none a.tempo)) (omega (arith, open_none a.utl)) (omega (arith, open_none a.utv)) refl refl refl

-- one value of a body that comes again
fixed-again : (l : Left) (n t : ℕ) → fixed_part l (t + n * open_part l t) ≡ fixed_part l t
fixed-again None n t = refl
fixed-again (Some v) n t = let e : t + n * 0 ≡ t = omega arith in rw e

open_again : (l : Left) (n t : ℕ) → open_part l (t + n * open_part l t) ≡ suc n * open_part l t
open_again None n t = omega (arith, suc-mul n t)
open_again (Some v) n t = omega arith

later-again : (l : Left) → later l l ≡ l
later-again None = refl
later-again (Some v) = refl

-- One pass more is a pass, and the other passes after it.
pub passes-more : (n : ℕ) (b : TimeMap) → passes (suc n) b ≡ joined b (passes n b)
unfolding passes joined
passes-more zero b =
    same_map (plus b 0 (under b b)) (plus b 1 (under b still))
    (rw (zero-mul (under b b).fixed) (omega (arith, fixed_none b.tempo, fixed_none b.utl, fixed_none b.utv)))
    (rw (zero-mul (under b b).tempos) (omega (arith, open_none b.tempo)))
    (rw (zero-mul (under b b).utls) (omega (arith, open_none b.utl)))
    (rw (zero-mul (under b b).utvs) (omega (arith, open_none b.utv)))
    (later-again b.tempo) (later-again b.utl) (later-again b.utv)
passes-more (suc n) b =
    let one : (l m : Left) → l ≡ m → later l l ≡ later l m = λ l m e. ap (later l) e in
    same_map (plus b (suc n) (under b b)) (plus b 1 (under b (plus b n (under b b))))
    (omega (
      arith,
      suc-mul n (under b b).fixed,
      fixed-again b.tempo n b.tempos,
      fixed-again b.utl n b.utls,
      fixed-again b.utv n b.utvs,
    ))
    (omega (arith, open_again b.tempo n b.tempos))
    (omega (arith, open_again b.utl n b.utls))
    (omega (arith, open_again b.utv n b.utvs))
    (one _ _ (sym (later-again b.tempo))) (one _ _ (sym (later-again b.utl))) (one _ _ (sym (later-again b.utv)))
