-- A voice read pair by pair: at each pair what is made of the stored pairs so far, with what is still to
-- come, is what is made of the voice.
-- open_of, opens_of            the code's list of the bodies that are open
-- Kept, kept-length, kept_push   so, with what is known of them; as many; one body more
-- Known, known-learn           the code's list of phrases holds what is made of them; one phrase more
-- Reading                      all that is known at a pair
-- reading-start, reading-end   before the first pair, and after the last
-- left                         what is open from a pair on
-- few-pairs, few-heds          no body has more than 1,048,576 pairs, and at most 16 are open by a HED
-- now_small                    so the map of the innermost body is small
-- whole_as                     what is made of the voice, where what is open is known
use Prim.Native.Nat.{ℕ, zero, suc, ◌+◌, ◌/◌, ◌<◌, ◌≤◌}
use mathlib.Core.Path.{◌≡◌, refl, sym, ap, ◌∙◌, subst}
use mathlib.Core.List.{List, [], ◌∷◌, ◌++◌}
use native.Mathlib.Omega.{arith}
use borrow.Author.Tests.{ltb-false}
use lib.Dec.{eqb}
use lib.ListN.{length, get_or, set, replicate, length-append, length-set}
use Rattle.logic.specs.Cases.{cases}
use Rattle.timemap.specs.declared.TimeMap.{TimeMap}
use Rattle.timemap.specs.Maps.{still}
use Rattle.timemap.specs.Small.{Small}
use Rattle.timemap.proofs.Within.{within-still, within-small}
use Rattle.bodies.specs.Voice.{pairs}
use Rattle.bodies.specs.Bodies.{Body, inner, outer, body_of}
use Rattle.bodies.specs.Playing.{learn, of_voice, walked_of, depth_of}
use Rattle.bodies.specs.Order.{Shut}
use Rattle.bodies.specs.OnePass.{reading}
use Rattle.bodies.specs.Places.{open_at}
use Rattle.bodies.proofs.Cells.{set_at}
use Rattle.bodies.proofs.OnePass.{one_pass_voice}
use Rattle.bodies.proofs.Stored.{open_end}
use Rattle.mus.proofs.Accepted.{accepted-sound}
use Rattle.walk.proofs.Closing.{differ}
use Rattle.voicelength.specs.declared.reading.Open.{Open}
use Rattle.voicelength.specs.Lasting.{map_of}
use Rattle.voicelength.specs.Readable.{Readable}
use Rattle.voicelength.proofs.Weighing.{Weighed, none, after, weighing, none_after, after_none}
use Rattle.voicelength.proofs.Weighing.{weighed_map, weighed_pairs, weighed_depth, Good}
use Rattle.voicelength.proofs.Frames.{Opened, hed, def, rest, whole, heds, Ok, EachOk, rest-pairs, rest-depth}
use Rattle.voicelength.proofs.Chains.{Chain, start_fit}

abbrev pub open_of : Opened → Open
open_of (hed n a) = record { before = a.map; number = n }
open_of (def k a) = record { before = a.map; number = k }

-- the list of the code: the bodies that are open, the innermost last
abbrev pub opens_of : List Opened → List Open
opens_of [] = []
opens_of (f ∷ fs) = opens_of fs ++ open_of f ∷ []

opens-length : (fs : List Opened) → length (opens_of fs) ≡ length fs
opens-length [] = refl
opens-length (f ∷ fs) = omega (arith, length-append (opens_of fs) (open_of f ∷ []), opens-length fs)

pub record Kept (around : List Open) (fs : List Opened) : Type 0 where
  pub ok : EachOk fs
  pub holds : around ≡ opens_of fs
  pub short : length fs ≤ heds fs + 1

pub kept-length : (around : List Open) (fs : List Opened) → Kept around fs → length around ≡ length fs
kept-length around fs k = ap length k.holds ∙ opens-length fs

pub record Known (phrases : List TimeMap) (table : ℕ → Weighed) : Type 0 where
  pub good : (k : ℕ) → Good (table k)
  pub knows : (k : ℕ) → get_or phrases k still ≡ (table k).map
  pub size : length phrases ≡ 24

pub kept_push : (around : List Open) (fs : List Opened) (f : Opened) → Ok f → length (f ∷ fs) ≤ heds (f ∷ fs) + 1
    → Kept around fs → Kept (around ++ open_of f ∷ []) (f ∷ fs)
kept_push around fs f ok short k =
    record { ok = (ok, k.ok); holds = ap (λ (os : List Open). os ++ open_of f ∷ []) k.holds; short = short }

pub known-learn : (phrases : List TimeMap) (table : ℕ → Weighed) (k : ℕ) (x : Weighed) → k < 24 → Good x
    → Known phrases table → Known (set phrases k x.map) (learn k x table)
known-learn phrases table k x low g t =
    record {
      good = λ j. cases (eqb k j) (λ e. rw e g) (λ e. rw e (t.good j));
      knows =
          λ j. set_at still phrases k j x.map (omega (arith, t.size)) ∙ cases (eqb k j) (λ e. rw e)
          (λ e. rw e (t.knows j));
      size = length-set phrases k x.map ∙ t.size;
    }

pub record Reading (bs : List ℕ) (around : List Open) (phrases : List TimeMap) (now : TimeMap) (at : ℕ) : Type 0 where
  pub here : Weighed
  pub frames : List Opened
  pub table : ℕ → Weighed
  pub is : here.map ≡ now
  pub whole_is : whole here frames table (open_at (pairs bs) at) ≡ of_voice weighing (pairs bs)
  pub chain : Chain frames (open_at (pairs bs) at)
  pub good : Good here
  pub kept : Kept around frames
  pub known : Known phrases table
  pub readable : Readable bs
  pub bytes : (k : ℕ) → get_or bs k 0 < 256

still_at : (n k : ℕ) → get_or (replicate n still) k still ≡ still
still_at zero k = refl
still_at (suc n) zero = refl
still_at (suc n) (suc k) = still_at n k

pub reading-start : (bs : List ℕ) → ((k : ℕ) → get_or bs k 0 < 256) → Readable bs → Reading bs [] (replicate 24 still) still 0
unfolding rest open_at body_of
reading-start bs bytes p =
    let s = accepted-sound (pairs bs) p.passes in
    record {
      here = none;
      frames = [];
      table = λ k. none;
      is = refl;
      whole_is = none_after _ ∙ one_pass_voice weighing (pairs bs) s;
      chain = start_fit _ _ s.ordered s.shut;
      good = within-still;
      kept = record { ok = tt; holds = refl; short = omega arith };
      known = record { good = λ k. within-still; knows = still_at 24; size = refl };
      readable = p;
      bytes = bytes;
    }

module _ {bs : List ℕ} {around : List Open} {phrases : List TimeMap} {now : TimeMap} {at : ℕ}
    (r : Reading bs around phrases now at) where
  abbrev pub left : List Body
  left = open_at (pairs bs) at

  pub few-pairs : (x : Weighed) (fs : List Opened) (t : ℕ → Weighed) (l : List Body) → EachOk fs
      → whole x fs t l ≡ of_voice weighing (pairs bs) → x.pairs ≤ 1048576
  few-pairs x fs t l ok w =
      let m = reading weighing t (inner l) in
      let more : x.pairs ≤ (after x m.total).pairs = unfold after in omega arith in
      omega (
        arith,
        more,
        rest-pairs fs (after x m.total) m.phrases (outer l) ok,
        ap (λ (y : Weighed). y.pairs) w,
        weighed_pairs (pairs bs),
        ltb-false 1048576 (walked_of (pairs bs)) r.readable.passes.limits.1.0,
      )

  pub few-heds : (x : Weighed) (fs : List Opened) (t : ℕ → Weighed) (l : List Body)
      → whole x fs t l ≡ of_voice weighing (pairs bs) → heds fs ≤ 16
  few-heds x fs t l w =
      let m = reading weighing t (inner l) in
      omega (
        arith,
        rest-depth fs (after x m.total) m.phrases (outer l),
        ap (λ (y : Weighed). y.depth) w,
        weighed_depth (pairs bs),
        ltb-false 16 (depth_of (pairs bs)) r.readable.passes.limits.0,
      )

  pub now_small : Small now
  now_small =
      subst Small r.is
      (within-small r.here.pairs r.here.map
      (few-pairs r.here r.frames r.table left r.kept.ok r.whole_is) r.good)

  ended : (fs : List Opened) → Chain fs [] → fs ≡ []
  unfolding inner Shut
  ended [] c = refl
  ended (hed n a ∷ fs) c = absurd (let z : ◌≡◌ {A = ℕ} 0 2 = differ c.0.shut in omega arith)
  ended (def k a ∷ fs) c = absurd (let z : ◌≡◌ {A = ℕ} 1 2 = differ c.0.shut in omega arith)

  -- the same, where the frames and what is open are known
  pub whole_as : (fs : List Opened) (l : List Body) → r.frames ≡ fs → left ≡ l
      → whole r.here fs r.table l ≡ of_voice weighing (pairs bs)
  whole_as fs l e q =
      subst (λ (gs : List Opened). whole r.here gs r.table l ≡ of_voice weighing (pairs bs)) e
      (subst (λ (k : List Body). whole r.here r.frames r.table k ≡ of_voice weighing (pairs bs)) q r.whole_is)

  pub reading-end : length bs / 2 ≤ at → (now ≡ map_of (pairs bs)) × Small now
  unfolding rest reading inner outer
  reading-end h =
      let q = open_end bs at h in
      let e = ended r.frames (subst (Chain r.frames) q r.chain) in
      let same : r.here ≡ of_voice weighing (pairs bs) = sym (after_none r.here) ∙ whole_as [] [] e q in
      (sym r.is ∙ ap (λ (x : Weighed). x.map) same ∙ weighed_map (pairs bs), now_small)
