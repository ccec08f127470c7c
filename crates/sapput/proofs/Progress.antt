-- Blocks put into memory from an offset on. Assumes nothing.
-- Putting         the blocks that are left are whole, and put into memory as it is make memory as it will be
-- putting_start   so where they begin
-- putting_marker, putting_block   one step on, by what stands there
-- putting_ended   where nothing stands, the file ends
use Prim.Native.Nat.{ℕ}
use mathlib.Core.Path.{◌≡◌, refl, sym, ap, ◌∙◌}
use mathlib.Core.Bool.{true, false}
use mathlib.Core.List.{List, ◌∷◌}
use native.Mathlib.Omega.{arith}
use lib.ListN.{length}
use lib.Dec.{ltb}
use Rattle.std.specs.Prelude.{Some, None}
use borrow.Author.Tests.{ltb-true, ltb-false}
use Rattle.logic.specs.Cases.{cases}
use Rattle.fields.specs.Parts.{put}
use Rattle.sapblocks.specs.declared.Block.{Block}
use Rattle.sapblocks.specs.declared.Found.{Found}
use Rattle.sapblocks.specs.declared.Found.TheVariants.{Marker, Whole}
use Rattle.sapblocks.specs.Blocks.{Blocks, with_block, blocks_in, are_whole, listed}
use Rattle.sapblocks.specs.Blocks.Blocks.{bad, whole}
use Rattle.sapblocks.specs.Answers.{found_at}
use Rattle.sapblocks.specs.Laws.{blocks_on, going_on, blocks-ended, blocks-found, blocks-either, found-there, Bytes, found-good}
use Rattle.sapput.specs.Putting.{data_of, blocks_put}
use Rattle.sapput.specs.Laws.{length-block}

not_whole : {A : Type 0} → are_whole bad ≡ true → A
not_whole e = absurd (let z : ◌≡◌ {A = ℕ} 0 1 = cc in omega arith)

-- the blocks after a block
after_block : (b : Block) (x : Blocks) → are_whole (with_block b x) ≡ true → (are_whole x ≡ true) × (listed (with_block b x) ≡ b ∷ listed x)
after_block b bad e = not_whole e
after_block b (whole bs) e = (refl, refl)

abbrev pub Putting : List ℕ → ℕ → List ℕ → ℕ → List ℕ → Type 0
Putting f at m₀ place m =
    (are_whole (blocks_on f false place) ≡ true) × (length m ≡ 65536) × (blocks_put f (listed (blocks_on f false place)) m ≡ blocks_put f (listed (blocks_in f at)) m₀)

module _ (f : List ℕ) where
  -- where blocks that must follow are whole, whether they must makes no difference
  need_not : (at : ℕ) → are_whole (blocks_on f true at) ≡ true → blocks_on f true at ≡ blocks_on f false at
  need_not at e =
      cases (ltb at (length f)) (λ h. blocks-either f at true false (ltb-true at (length f) h))
      (λ h. not_whole (rw (blocks-ended f at true (ltb-false at (length f) h)) at e))

  module _ (at : ℕ) (m₀ : List ℕ) where
    pub putting_start : are_whole (blocks_in f at) ≡ true → length m₀ ≡ 65536 → Putting f at m₀ at m₀
    unfolding blocks_in
    putting_start e size = rw (← need_not at e) (e, size, refl)

    module _ (place : ℕ) (m : List ℕ) (p : Putting f at m₀ place m) where
      on : (x : Found) → Some x ≡ found_at f place → blocks_on f false place ≡ going_on f (Some x)
      on x e = blocks-found f place false (found-there f place x e) ∙ ap (going_on f) (sym e)

      pub putting_marker : (next : ℕ) → Some (Marker next) ≡ found_at f place → Putting f at m₀ next m
      putting_marker next e =
          let first = on (Marker next) e in
          rw (first ∙ need_not next (rw first at p.0)) at p

      pub putting_block : (b : Block) (next : ℕ) (after : List ℕ) → Bytes f → Some (Whole b next) ≡ found_at f place → after ≡ put m b.start (data_of f b) → Putting f at m₀ next after
      putting_block b next memory bytes e done =
          let first = on (Whole b next) e in
          let after = after_block b (blocks_on f false next) (rw first at p.0) in
          rw done (after.0, length-block f b (found-good f bytes place b next e) m p.1, rw (ap listed first ∙ after.1) at p.2)

      pub putting_ended : None ≡ found_at f place → m ≡ blocks_put f (listed (blocks_in f at)) m₀
      putting_ended e =
          cases (ltb place (length f)) (λ h. not_whole (rw (blocks-found f place false (ltb-true place (length f) h) ∙ ap (going_on f) (sym e)) at p.0))
          (λ h. rw (blocks-ended f place false (ltb-false place (length f) h)) at p.2)
