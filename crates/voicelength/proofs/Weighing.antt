-- A body's map beside its pairs walked and its depth, for what acceptance has shown of them.
-- Weighed, same_weighed        the three together; equal where all three are
-- none, one, after, repeated, standing, called   of nothing, of a pair, of bodies put together
-- weighing                     so for every body
-- after_assoc, none_after, after_none   laws of bodies put together
-- weighed_map, weighed_pairs, weighed_depth   of a voice, each is what it is by itself
-- Good                         a body's pairs walked bound its events, and so its map
-- good-after, good-repeated, good-standing, good-called   of bodies put together
use Prim.Native.Nat.{ℕ, ◌+◌, ◌*◌, max}
use mathlib.Core.Path.{◌≡◌, refl}
use mathlib.Core.List.{List}
use native.Mathlib.Nat.{le_refl}
use native.Mathlib.Omega.{arith}
use Rattle.meaning.specs.declared.Meaning.{Meaning}
use Rattle.refusals.specs.Numbers.{Outcome}
use Rattle.timemap.specs.declared.TimeMap.{TimeMap}
use Rattle.timemap.specs.Maps as maps
use Rattle.timemap.specs.Maps.{still, joined}
use Rattle.timemap.specs.Laws.{joined_assoc, still-joined, joined-still}
use Rattle.timemap.proofs.Within.{Within, within-joined, within-passes, within_more}
use Rattle.pairmap.specs.Pairs.{single}
use Rattle.bodies.specs.Playing.{Interpretation, of_voice, walking, nesting, walked_of, depth_of}
use Rattle.bodies.proofs.Related.{related-voice, few}
use Rattle.voicelength.specs.Lasting.{lasting, map_of}

pub record Weighed : Type 0 where
  pub map : TimeMap
  pub pairs : ℕ
  pub depth : ℕ

pub same_weighed : (x y : Weighed) → x.map ≡ y.map → x.pairs ≡ y.pairs → x.depth ≡ y.depth → x ≡ y
same_weighed x y m p d = λ i. record { map = m i; pairs = p i; depth = d i }

abbrev pub none : Weighed
none = record { map = still; pairs = 0; depth = 0 }

abbrev pub one : Outcome Meaning → Weighed
one m = record { map = single m; pairs = 1; depth = 0 }

unfoldable pub after : Weighed → Weighed → Weighed
after x y = record { map = joined x.map y.map; pairs = x.pairs + y.pairs; depth = max x.depth y.depth }

abbrev pub repeated : ℕ → Weighed → Weighed
repeated n x = record { map = maps.passes n x.map; pairs = 1 + n * (x.pairs + 1); depth = 1 + x.depth }

abbrev pub standing : Weighed → Weighed
standing x = record { map = x.map; pairs = x.pairs + 2; depth = x.depth }

abbrev pub called : Weighed → Weighed
called x = record { map = x.map; pairs = x.pairs + 2; depth = 1 + x.depth }

abbrev pub weighing : Interpretation Weighed
weighing =
    record {
      nothing = none;
      plain = λ e r. after (one e.meaning) r;
      repeated = λ n b r. after (repeated n b) r;
      defined = λ b r. after (standing b) r;
      called = λ b r. after (called b) r;
    }

pub after_assoc : (x y z : Weighed) → after (after x y) z ≡ after x (after y z)
unfolding after
after_assoc x y z =
    same_weighed (after (after x y) z) (after x (after y z)) (joined_assoc x.map y.map z.map) (omega arith)
    (omega arith)

pub none_after : (x : Weighed) → after none x ≡ x
unfolding after
none_after x = same_weighed (after none x) x (still-joined x.map) (omega arith) (omega arith)

pub after_none : (x : Weighed) → after x none ≡ x
unfolding after
after_none x = same_weighed (after x none) x (joined-still x.map) (omega arith) (omega arith)

module _ (v : List (Outcome Meaning)) where
  pub weighed_map : (of_voice weighing v).map ≡ map_of v
  unfolding map_of after
  weighed_map =
      related-voice weighing lasting (λ x a. x.map ≡ a)
      record {
        nothing = refl;
        plain = λ e x a h. rw h;
        repeated = λ t x y a b h g. rw (h, g);
        defined = λ x y a b h g. rw (h, g);
        called = λ x y a b h g. rw (h, g);
      }
      v

  pub weighed_pairs : (of_voice weighing v).pairs ≡ walked_of v
  unfolding walked_of after
  weighed_pairs =
      related-voice weighing walking (λ x n. x.pairs ≡ n)
      record {
        nothing = refl;
        plain = λ e x a h. rw h;
        repeated = λ t x y a b h g. rw (h, g);
        defined = λ x y a b h g. rw (h, g);
        called = λ x y a b h g. rw (h, g);
      }
      v

  pub weighed_depth : (of_voice weighing v).depth ≡ depth_of v
  unfolding depth_of after
  weighed_depth =
      related-voice weighing nesting (λ x n. x.depth ≡ n)
      record {
        nothing = refl;
        plain = λ e x a h. rw h (omega arith);
        repeated = λ t x y a b h g. rw (h, g);
        defined = λ x y a b h g. rw (h, g);
        called = λ x y a b h g. rw (h, g);
      }
      v

abbrev pub Good : Weighed → Type 0
Good x = Within x.pairs x.map

pub good-after : (x y : Weighed) → Good x → Good y → Good (after x y)
unfolding after
good-after x y p q = within-joined x.pairs y.pairs x.map y.map p q

pub good-repeated : (n : ℕ) (x : Weighed) → Good x → Good (repeated n x)
good-repeated n x p =
    within_more (n * x.pairs) (1 + n * (x.pairs + 1)) _ (omega (arith, few n x.pairs x.pairs (le_refl x.pairs)))
    (within-passes n x.pairs x.map p)

pub good-standing : (x : Weighed) → Good x → Good (standing x)
good-standing x p = within_more x.pairs (x.pairs + 2) x.map (omega arith) p

pub good-called : (x : Weighed) → Good x → Good (called x)
good-called x p = good-standing x p
