-- A voice read pair by pair: what is known at the next pair, by what this one is.
-- next                    what is open after this pair
-- read-event, read-call   an event, a CAL
-- called-small            the map of a phrase that is called is small
-- Opening, read-hed, read-def   a HED, a DEF: the body around waits
-- AtTal, read-tal         a TAL: passes of the body that it closes
-- AtEnd, read-end         an END: the phrase is kept
use Prim.Native.Nat.{ℕ, ◌+◌, ◌<◌, ◌≤◌}
use mathlib.Core.Path.{◌≡◌, refl, sym, ap, ◌∙◌, subst}
use mathlib.Core.List.{List, [], ◌∷◌, ◌++◌}
use Rattle.std.specs.Prelude.{Some}
use native.Mathlib.Omega.{arith}
use lib.ListN.{length, get_or, set}
use Rattle.timemap.specs.declared.TimeMap.{TimeMap}
use Rattle.timemap.specs.Maps.{still, joined, passes}
use Rattle.timemap.specs.Small.{Small}
use Rattle.timemap.proofs.Within.{within-still, within-small}
use Rattle.pairmap.specs.Pairs.{single}
use Rattle.bodies.specs.Voice.{pairs}
use Rattle.bodies.specs.Bodies as bodies
use Rattle.bodies.specs.Bodies.{Closer, by_tal, by_end, Body, done, event, repeat, phrase, call, inner, outer}
use Rattle.bodies.specs.Playing.{of_voice}
use Rattle.bodies.specs.Order.{Shut}
use Rattle.bodies.specs.Places.{open_at}
use Rattle.moves.specs.Moves.{top, below}
use Rattle.walk.proofs.Contexts.{topped}
use Rattle.walk.proofs.Closing.{differ}
use Rattle.voicelength.specs.declared.reading.Open.{Open}
use Rattle.voicelength.proofs.Weighing.{Weighed, none, one, after, repeated, standing, called}
use Rattle.voicelength.proofs.Weighing.{weighing, Good, good-after, good-repeated, good-standing}
use Rattle.voicelength.proofs.Weighing.{good-called}
use Rattle.voicelength.proofs.Frames.{Opened, hed, def, closed, learned, whole, whole-event}
use Rattle.voicelength.proofs.Frames.{whole-call, whole-hed, whole-def, whole_close, heds, Ok, EachOk}
use Rattle.voicelength.proofs.Chains.{closer_of, only-heds, Chain, chain_fit, chain-event, chain-call}
use Rattle.voicelength.proofs.Chains.{chain-hed, chain-def, no-def}
use Rattle.voicelength.proofs.Progress.{open_of, opens_of, Kept, kept-length, kept_push, Known, known-learn}
use Rattle.voicelength.proofs.Progress.{Reading, left, few-pairs, few-heds, whole_as}

module _ {bs : List ℕ} {around : List Open} {phrases : List TimeMap} {now : TimeMap} {at : ℕ}
    (r : Reading bs around phrases now at) where
  abbrev pub next : List Body
  next = open_at (pairs bs) (at + 1)

  -- a pair after which the innermost body goes on
  goes : (x : Weighed) → Good x → whole (after r.here x) r.frames r.table next ≡ of_voice weighing (pairs bs)
      → Chain r.frames next → Reading bs around phrases (joined now x.map) (at + 1)
  unfolding after
  goes x g w c =
      record {
        here = after r.here x;
        frames = r.frames;
        table = r.table;
        is = ap (λ (m : TimeMap). joined m x.map) r.is;
        whole_is = w;
        chain = c;
        good = good-after r.here x r.good g;
        kept = r.kept;
        known = r.known;
        readable = r.readable;
        bytes = r.bytes;
      }

  pub read-event : (e : bodies.Event) → Good (one e.meaning) → left r ≡ event e (inner next) ∷ outer next
      → Reading bs around phrases (joined now (single e.meaning)) (at + 1)
  read-event e g q =
      goes (one e.meaning) g (sym (whole-event r.here r.frames r.table next e) ∙ whole_as r r.frames _ refl q)
      (chain-event r.frames next e (subst (Chain r.frames) q r.chain))

  pub read-call : (k : ℕ) → left r ≡ call k (inner next) ∷ outer next
      → Reading bs around phrases (joined now (get_or phrases k still)) (at + 1)
  read-call k q =
      rw (r.known.knows k)
      (goes (called (r.table k)) (good-called (r.table k) (r.known.good k))
      (sym (whole-call r.here r.frames r.table next k) ∙ whole_as r r.frames _ refl q)
      (chain-call r.frames next k (subst (Chain r.frames) q r.chain)))

  pub called-small : (k : ℕ) → left r ≡ call k (inner next) ∷ outer next → Small (get_or phrases k still)
  called-small k q =
      let w = sym (whole-call r.here r.frames r.table next k) ∙ whole_as r r.frames _ refl q in
      let few = few-pairs r (after r.here (called (r.table k))) r.frames r.table next r.kept.ok w in
      let more : (r.table k).pairs ≤ (after r.here (called (r.table k))).pairs = unfold after in omega arith in
      rw (r.known.knows k) (within-small (r.table k).pairs (r.table k).map (omega (arith, few, more)) (r.known.good k))

  -- a body opened: the one around it waits
  opens : (f : Opened) → Ok f → length (f ∷ r.frames) ≤ heds (f ∷ r.frames) + 1
      → whole none (f ∷ r.frames) r.table next ≡ of_voice weighing (pairs bs) → Chain (f ∷ r.frames) next
      → Reading bs (around ++ open_of f ∷ []) phrases still (at + 1)
  opens f ok short w c =
      record {
        here = none;
        frames = f ∷ r.frames;
        table = r.table;
        is = refl;
        whole_is = w;
        chain = c;
        good = within-still;
        kept = kept_push around r.frames f ok short r.kept;
        known = r.known;
        readable = r.readable;
        bytes = r.bytes;
      }

  abbrev pub Opening : ℕ → Type 0
  Opening n =
      (length around < 17) × Reading bs (around ++ record { before = now; number = n } ∷ []) phrases still (at + 1)

  waits : (n : ℕ) → length r.frames ≤ 16
      → Reading bs (around ++ record { before = r.here.map; number = n } ∷ []) phrases still (at + 1)
      → Opening n
  waits n low x = (
    omega (arith, kept-length around r.frames r.kept),
    subst (λ (m : TimeMap). Reading bs (around ++ record { before = m; number = n } ∷ []) phrases still (at + 1)) r.is x,
  )

  pub read-hed : (n : ℕ) → 0 < n → n < 256
      → left r ≡ repeat n (inner next) (inner (outer next)) ∷ outer (outer next) → Opening n
  read-hed n some few q =
      let f = hed n r.here in
      let w = sym (whole-hed r.here r.frames r.table next n) ∙ whole_as r r.frames _ refl q in
      let low : length r.frames ≤ 16 = omega (arith, few-heds r none (f ∷ r.frames) r.table next w, r.kept.short) in
      waits n low
      (opens f (some, few, r.good) (omega (arith, r.kept.short)) w
      (chain-hed r.frames next n r.here (subst (Chain r.frames) q r.chain)))

  pub read-def : (k : ℕ) → k < 24 → left r ≡ phrase k (inner next) (inner (outer next)) ∷ outer (outer next) → Opening k
  read-def k few q =
      let f = def k r.here in
      let w = sym (whole-def r.here r.frames r.table next k) ∙ whole_as r r.frames _ refl q in
      let chain = subst (Chain r.frames) q r.chain in
      let same = only-heds r.frames (no-def r.frames next k chain) in
      let low : length r.frames ≤ 16 = omega (arith, few-heds r none (f ∷ r.frames) r.table next w, same) in
      waits k low (opens f (few, r.good) (omega (arith, same)) w (chain-def r.frames next k r.here chain))

  closed-whole : (f : Opened) (fs : List Opened) (c : Closer) → r.frames ≡ f ∷ fs → left r ≡ done c ∷ next
      → whole (closed f r.here) fs (learned f r.here r.table) next ≡ of_voice weighing (pairs bs)
  closed-whole f fs c e q = sym (whole_close r.here fs r.table next f c) ∙ whole_as r (f ∷ fs) (done c ∷ next) e q

  closed-small : (f : Opened) (fs : List Opened) (c : Closer) → r.frames ≡ f ∷ fs → left r ≡ done c ∷ next
      → (x : Weighed) → x.pairs ≤ (closed f r.here).pairs → Good x → Small x.map
  closed-small f fs c e q x h g =
      let ok : EachOk (f ∷ fs) = subst EachOk e r.kept.ok in
      within-small x.pairs x.map
      (omega (
        arith,
        few-pairs r (closed f r.here) fs (learned f r.here r.table) next ok.1
            (closed-whole f fs c e q),
      )) g

  -- a body closed: the one around it goes on
  closes : (f : Opened) (fs : List Opened) (c : Closer) (phrases' : List TimeMap) (m : TimeMap)
      → r.frames ≡ f ∷ fs → left r ≡ done c ∷ next → Good (closed f r.here)
      → (closed f r.here).map ≡ m → length fs ≤ heds fs + 1 → Known phrases' (learned f r.here r.table)
      → Reading bs (below around) phrases' m (at + 1)
  unfolding outer
  closes f fs c phrases' m e q g is short known =
      let chain : Chain (f ∷ fs) (done c ∷ next) = subst (λ (l : List Body). Chain (f ∷ fs) l) q
      (subst (λ (gs : List Opened). Chain gs (left r)) e r.chain) in
      record {
        here = closed f r.here;
        frames = fs;
        table = learned f r.here r.table;
        is = is;
        whole_is = closed-whole f fs c e q;
        chain = chain.1;
        good = g;
        kept =
            let k : Kept around (f ∷ fs) = subst (λ (gs : List Opened). Kept around gs) e r.kept in
            record { ok = k.ok.1; holds = (topped around (opens_of fs) (open_of f) k.holds).1; short = short };
        known = known;
        readable = r.readable;
        bytes = r.bytes;
      }

  -- the code's list has the body around the one that is closed
  top-is : (f : Opened) (fs : List Opened) → r.frames ≡ f ∷ fs → top around ≡ Some (open_of f)
  top-is f fs e = (topped around (opens_of fs) (open_of f) (subst (λ (gs : List Opened). Kept around gs) e r.kept).holds).0

  pub record AtTal : Type 0 where
    pub open_body : Open
    pub is-top : top around ≡ Some open_body
    pub passes-some : 0 < open_body.number
    pub passes-low : open_body.number < 256
    pub before_small : Small open_body.before
    pub passes-small : Small (passes open_body.number now)
    pub goes_on : Reading bs (below around) phrases (joined open_body.before (passes open_body.number now)) (at + 1)

  -- what closes the innermost body
  closer-is : (c : Closer) → left r ≡ done c ∷ next → closer_of r.frames ≡ c
  unfolding inner Shut
  closer-is c q = (chain_fit r.frames (done c ∷ next) (subst (Chain r.frames) q r.chain)).shut

  pub read-tal : left r ≡ done by_tal ∷ next → AtTal
  unfolding after
  read-tal q = go r.frames refl (closer-is by_tal q)
    where
      go : (fs : List Opened) → r.frames ≡ fs → closer_of fs ≡ by_tal → AtTal
      go [] e c = absurd (let z : ◌≡◌ {A = ℕ} 2 0 = differ c in omega arith)
      go (def k a ∷ fs) e c = absurd (let z : ◌≡◌ {A = ℕ} 1 0 = differ c in omega arith)
      go (hed n a ∷ fs) e c =
          let k : Kept around (hed n a ∷ fs) = subst (λ (gs : List Opened). Kept around gs) e r.kept in
          let ok = k.ok.0 in
          let g = good-repeated n r.here r.good in
          record {
            open_body = open_of (hed n a);
            is-top = top-is (hed n a) fs e;
            passes-some = ok.0;
            passes-low = ok.1;
            before_small = closed-small (hed n a) fs by_tal e q a (omega arith) ok.2;
            passes-small = rw (← r.is) (closed-small (hed n a) fs by_tal e q (repeated n r.here) (omega arith) g);
            goes_on = closes (hed n a) fs by_tal phrases (joined a.map (passes n now)) e q (good-after a (repeated n r.here) ok.2 g) (rw r.is) (omega (arith, k.short)) r.known;
          }

  pub record AtEnd : Type 0 where
    pub open_body : Open
    pub is-top : top around ≡ Some open_body
    pub number-low : open_body.number < 24
    pub before_small : Small open_body.before
    pub goes_on : Reading bs (below around) (set phrases open_body.number now) (joined open_body.before now) (at + 1)

  pub read-end : left r ≡ done by_end ∷ next → AtEnd
  unfolding after
  read-end q = go r.frames refl (closer-is by_end q)
    where
      go : (fs : List Opened) → r.frames ≡ fs → closer_of fs ≡ by_end → AtEnd
      go [] e c = absurd (let z : ◌≡◌ {A = ℕ} 2 1 = differ c in omega arith)
      go (hed n a ∷ fs) e c = absurd (let z : ◌≡◌ {A = ℕ} 0 1 = differ c in omega arith)
      go (def j a ∷ fs) e c =
          let k : Kept around (def j a ∷ fs) = subst (λ (gs : List Opened). Kept around gs) e r.kept in
          let ok = k.ok.0 in
          let g = good-standing r.here r.good in
          record {
            open_body = open_of (def j a);
            is-top = top-is (def j a) fs e;
            number-low = ok.0;
            before_small = closed-small (def j a) fs by_end e q a (omega arith) ok.1;
            goes_on = closes (def j a) fs by_end (set phrases j now) (joined a.map now) e q (good-after a (standing r.here) ok.1 g) (rw r.is) (omega (arith, k.short)) (rw (← r.is) (known-learn phrases r.table j r.here ok.0 r.good r.known));
          }
