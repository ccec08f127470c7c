-- What stands at an offset of a file, by the tests in the order in which they are made. Assumes nothing.
-- found-marker, marker-inside         FF FF, and that it lies in the file
-- found-bad, found-cut, found-whole   the addresses are bad; the data are cut off; a block
-- start_first, block_inside           its start is not after its end; it lies in the file
-- found-inside                        what is found lies in the file
use Prim.Native.Nat.{ℕ, ◌+◌, ◌-◌, ◌<◌, ◌≤◌}
use mathlib.Core.Path.{◌≡◌, sym, ◌∙◌}
use mathlib.Core.Bool.{Bool, true, false, cond, ◌||◌}
use mathlib.Core.List.{List}
use native.Mathlib.Omega.{arith}
use lib.ListN.{length, drop, get_or, length-drop, get_or-eq_default}
use Rattle.std.specs.Prelude.{Option, Some, None}
use lib.Dec.{ltb, eqb}
use borrow.Author.Tests.{ltb-true, ltb-false, eqb-true, lt-ltb, le-ltb}
use Rattle.logic.specs.Cases.{cases}
use Rattle.logic.specs.Truth.{both_right, neither}
use Rattle.fields.specs.Numbers.{le16}
use Rattle.sapblocks.specs.declared.Found.{Found}
use Rattle.sapblocks.specs.declared.Found.TheVariants.{Marker, Whole}
use Rattle.sapblocks.specs.Blocks.{marker, size_of, touches}
use Rattle.sapblocks.specs.Answers.{found_at}

-- a byte that is not 0 lies in its list
inside : (s : List ℕ) (k : ℕ) → get_or s k 0 ≡ 0xFF → k < length s
inside s k e = cases (ltb k (length s)) (ltb-true k (length s)) (λ p. absurd (omega (arith, e, get_or-eq_default s 0 (ltb-false k (length s) p))))

module _ (f : List ℕ) (at : ℕ) (is : Bool) (e : is ≡ marker (drop at f)) where
  pub found-marker : is ≡ true → Some (Marker (at + 2)) ≡ found_at f at
  unfolding found_at
  found-marker t = rw (sym e ∙ t)

  pub marker-inside : is ≡ true → at + 2 ≤ length f
  marker-inside t =
      let s = drop at f in
      let second = both_right (eqb (get_or s 0 0) 0xFF) (eqb (get_or s 1 0) 0xFF) (sym e ∙ t) in
      omega (arith, length-drop at f, inside s 1 (eqb-true (get_or s 1 0) 0xFF second))

  module _ (s : List ℕ) (start end : ℕ) (es : s ≡ drop at f) (e1 : start ≡ le16 s 0) (e2 : end ≡ le16 s 2) where
    abbrev addresses_bad : Bool
    addresses_bad = ltb (length s) 4 || ltb end start || touches start end

    abbrev found : Option Found
    found = Some (Whole record { start = start; end = end; from = at + 4 } (at + 4 + size_of start end))

    by_parts : is ≡ false → found_at f at ≡ cond (addresses_bad || ltb (length s) (4 + size_of start end)) None found
    unfolding found_at
    by_parts n = rw (e2, e1, es, sym e ∙ n)

    pub found-bad : is ≡ false → addresses_bad ≡ true → None ≡ found_at f at
    found-bad n t = rw (by_parts n, t)

    module _ (good : addresses_bad ≡ false) where
      pub start_first : start ≤ end
      start_first = ltb-false end start (neither (ltb (length s) 4) (ltb end start) (neither (ltb (length s) 4 || ltb end start) (touches start end) good).0).1

      pub found-cut : is ≡ false → length s < 4 + size_of start end → None ≡ found_at f at
      found-cut n h = rw (by_parts n, good, lt-ltb (length s) (4 + size_of start end) h)

      module _ (long : 4 + size_of start end ≤ length s) where
        pub found-whole : is ≡ false → found ≡ found_at f at
        found-whole n = rw (by_parts n, good, le-ltb (length s) (4 + size_of start end) long)

        pub block_inside : at + 4 + size_of start end ≤ length f
        block_inside = let l : length s ≡ length f - at = rw es (length-drop at f) in omega arith
