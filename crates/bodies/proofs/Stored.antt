-- The pairs of a voice by number, and the bodies that are open at one.
-- length_pairs          a voice of n bytes has n / 2 pairs
-- pairs-from, pairs_cons, pairs_end   the pairs from a number on
-- plain-pair-event      what is plain is an event
-- open_cons, open_end   what is open at a pair, from what is open after it
-- event_at_lem, hlt_at, bad_at, hed_at, tal_at, def_at, end_at, cal_at   so for each kind of pair
use Prim.Native.Nat.{ℕ, zero, suc, ◌+◌, ◌*◌, ◌/◌, ◌<◌, ◌≤◌}
use mathlib.Core.Path.{◌≡◌, refl, ap, ◌∙◌}
use mathlib.Core.Bool.{true}
use mathlib.Core.List.{List, [], ◌∷◌}
use native.Mathlib.Numerals.{add-one}
use native.Mathlib.Omega.{arith}
use lib.ListN.{length, drop, get_or, drop_of_length-le}
use lib.Seq.{drop-cons, drop-nil}
use Rattle.kind.specs.declared.Kind.{Kind}
use Rattle.kind.specs.Kinds.{kind_of}
use Rattle.kind.proofs.PlainEvents as plain
use Rattle.bodies.specs.Voice.{pairs_by, pairs, pair_at, plain_at}
use Rattle.bodies.specs.Bodies.{Event, by_tal, by_end, Body, done, event, repeat, phrase, call, inner, outer, with_pair, event_at, bodies}
use Rattle.bodies.specs.Places.{open_at}

pub length_pairs : (bs : List ℕ) → length (pairs bs) ≡ length bs / 2
unfolding pairs_by pairs
length_pairs [] = refl
length_pairs (a ∷ []) = refl
length_pairs (a ∷ b ∷ bs) = rw (length_pairs bs) (omega arith)

double : (i : ℕ) → 2 * suc i ≡ suc (suc (2 * i))
double i = omega arith

pub pairs-from : (bs : List ℕ) (i : ℕ) → drop i (pairs bs) ≡ pairs (drop (2 * i) bs)
unfolding pairs_by pairs
pairs-from bs zero = refl
pairs-from [] (suc i) = rw (drop-nil {A = ℕ} (2 * suc i))
pairs-from (a ∷ []) (suc i) = rw (double i)
pairs-from (a ∷ b ∷ bs) (suc i) = rw (double i) (pairs-from bs i)

pub pairs_cons : (bs : List ℕ) (i : ℕ) → i < length bs / 2 → drop i (pairs bs) ≡ pair_at bs i ∷ drop (i + 1) (pairs bs)
unfolding pairs_by pairs pair_at
pairs_cons bs i h =
    let one = drop-cons bs (2 * i) 0 (omega arith) in
    let two = drop-cons bs (suc (2 * i)) 0 (omega arith) in
    let next : 2 * (i + 1) ≡ suc (suc (2 * i)) = omega arith in
    rw (pairs-from bs i, pairs-from bs (i + 1), one, two, next, add-one)

pub pairs_end : (bs : List ℕ) (i : ℕ) → length bs / 2 ≤ i → drop i (pairs bs) ≡ []
pairs_end bs i h = drop_of_length-le (pairs bs) {i = i} (omega (arith, length_pairs bs))

pub plain-pair-event : (bs : List ℕ) (i : ℕ) → plain_at bs i ≡ true → kind_of (pair_at bs i) ≡ Kind.Event
unfolding plain_at pair_at
plain-pair-event bs i e = plain.plain-event (get_or bs (2 * i) 0) (get_or bs (2 * i + 1) 0) e

pub open_cons : (bs : List ℕ) (i : ℕ) → i < length bs / 2
    → open_at (pairs bs) i ≡ with_pair (event_at i (pair_at bs i)) (kind_of (pair_at bs i)) (open_at (pairs bs) (i + 1))
unfolding open_at bodies
open_cons bs i h = rw (pairs_cons bs i h)

pub open_end : (bs : List ℕ) (i : ℕ) → length bs / 2 ≤ i → open_at (pairs bs) i ≡ []
unfolding open_at bodies
open_end bs i h = rw (pairs_end bs i h)

-- the body at a pair and the bodies around it, by the pair's kind
module _ (bs : List ℕ) (i : ℕ) (h : i < length bs / 2) where
  abbrev next : List Body
  next = open_at (pairs bs) (i + 1)

  abbrev pub here : Event
  here = event_at i (pair_at bs i)

  open_as : (z : Kind) → kind_of (pair_at bs i) ≡ z → open_at (pairs bs) i ≡ with_pair here z next
  open_as z k = open_cons bs i h ∙ ap (λ (y : Kind). with_pair here y next) k

  pub event_at_lem : kind_of (pair_at bs i) ≡ Kind.Event → open_at (pairs bs) i ≡ event here (inner next) ∷ outer next
  unfolding with_pair
  event_at_lem k = open_as Kind.Event k

  pub hlt_at : kind_of (pair_at bs i) ≡ Kind.Hlt → open_at (pairs bs) i ≡ event here (inner next) ∷ outer next
  unfolding with_pair
  hlt_at k = open_as Kind.Hlt k

  pub bad_at : (n : ℕ) → kind_of (pair_at bs i) ≡ Kind.Bad n → open_at (pairs bs) i ≡ event here (inner next) ∷ outer next
  unfolding with_pair
  bad_at n k = open_as (Kind.Bad n) k

  pub hed_at : (n : ℕ) → kind_of (pair_at bs i) ≡ Kind.Hed n → open_at (pairs bs) i ≡ repeat n (inner next) (inner (outer next)) ∷ outer (outer next)
  unfolding with_pair
  hed_at n k = open_as (Kind.Hed n) k

  pub tal_at : kind_of (pair_at bs i) ≡ Kind.Tal → open_at (pairs bs) i ≡ done by_tal ∷ next
  unfolding with_pair
  tal_at k = open_as Kind.Tal k

  pub def_at : (n : ℕ) → kind_of (pair_at bs i) ≡ Kind.Def n → open_at (pairs bs) i ≡ phrase n (inner next) (inner (outer next)) ∷ outer (outer next)
  unfolding with_pair
  def_at n k = open_as (Kind.Def n) k

  pub end_at : kind_of (pair_at bs i) ≡ Kind.End → open_at (pairs bs) i ≡ done by_end ∷ next
  unfolding with_pair
  end_at k = open_as Kind.End k

  pub cal_at : (n : ℕ) → kind_of (pair_at bs i) ≡ Kind.Cal n → open_at (pairs bs) i ≡ call n (inner next) ∷ outer next
  unfolding with_pair
  cal_at n k = open_as (Kind.Cal n) k
