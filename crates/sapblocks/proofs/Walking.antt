-- A walk over the blocks from an offset on, after so many blocks. Assumes nothing.
-- wanted_or              the block asked for, after a block more (wanted_this, wanted_other)
-- counted, resumed      the answer, by what is counted and found so far and by the blocks that are left
-- resumed_none          from the first block on it is the answer to the whole file
-- Walking               what a walk that has come to an offset knows; walking_start where it begins
-- walking-bad, walking-marker, walking-block   one step on, by what stands there
-- walking-ended         a block at the file's end
use Prim.Native.Nat.{ℕ, zero, suc, ◌+◌, ◌<◌, ◌≤◌}
use mathlib.Core.Path.{◌≡◌, refl, sym, ap, ◌∙◌}
use mathlib.Core.Bool.{true, false, cond}
use mathlib.Core.List.{List, [], ◌∷◌}
use native.Mathlib.Omega.{arith}
use lib.ListN.{length}
use Rattle.std.specs.Prelude.{Option, Some, None}
use lib.Dec.{eqb}
use borrow.Author.Tests.{eq-eqb, ne_eqb}
use Rattle.sapblocks.specs.declared.Block.{Block}
use Rattle.sapblocks.specs.declared.Found.{Found}
use Rattle.sapblocks.specs.declared.Found.TheVariants.{Marker, Whole}
use Rattle.sapblocks.specs.declared.Walked.{Walked}
use Rattle.sapblocks.specs.Blocks.{Blocks, with_block, blocks_in}
use Rattle.sapblocks.specs.Blocks.Blocks.{bad, whole}
use Rattle.sapblocks.specs.Answers.{found_at, numbered, walked_in}
use Rattle.sapblocks.specs.Laws.{blocks_on, going_on, blocks-ended, blocks-standing, blocks-either}

-- the block asked for, where this is the one of its number
abbrev pub wanted_or : ℕ → ℕ → Block → Option Block → Option Block
wanted_or number count b wanted = cond (eqb count number) (Some b) wanted

module _ (number count : ℕ) (b : Block) (wanted x : Option Block) where
  pub wanted_this : count ≡ number → x ≡ Some b → x ≡ wanted_or number count b wanted
  wanted_this e q = rw (eq-eqb count number e) q

  pub wanted_other : (count ≡ number → ⊥) → x ≡ wanted → x ≡ wanted_or number count b wanted
  wanted_other n q = rw (ne_eqb count number n) q

abbrev answer : ℕ → Option Block → Option Walked
answer count wanted = Some (record { count = count; wanted = wanted })

abbrev pub counted : ℕ → ℕ → Option Block → List Block → Option Walked
counted number count wanted [] = answer count wanted
counted number count wanted (b ∷ bs) = counted number (count + 1) (wanted_or number count b wanted) bs

abbrev pub resumed : ℕ → ℕ → Option Block → Blocks → Option Walked
resumed number count wanted bad = None
resumed number count wanted (whole bs) = counted number count wanted bs

past : (number : ℕ) (bs : List Block) (count : ℕ) (wanted : Option Block) → number < count → counted number count wanted bs ≡ answer (count + length bs) wanted
past number [] count wanted h = let none : count ≡ count + 0 = omega arith in ap (λ (n : ℕ). answer n wanted) none
past number (b ∷ bs) count wanted h =
    let more : count + 1 + length bs ≡ count + suc (length bs) = omega arith in
    rw (ne_eqb count number (λ e. omega arith)) (past number bs (count + 1) wanted (omega arith) ∙ ap (λ (n : ℕ). answer n wanted) more)

ahead : (bs : List Block) (count n number : ℕ) → number ≡ count + n → counted number count None bs ≡ answer (count + length bs) (numbered bs n)
ahead [] count n number e = let none : count ≡ count + 0 = omega arith in ap (λ (m : ℕ). answer m None) none
ahead (b ∷ bs) count zero number e =
    let more : count + 1 + length bs ≡ count + suc (length bs) = omega arith in
    rw (eq-eqb count number (omega arith)) (past number bs (count + 1) (Some b) (omega arith) ∙ ap (λ (m : ℕ). answer m (Some b)) more)
ahead (b ∷ bs) count (suc n) number e =
    let more : count + 1 + length bs ≡ count + suc (length bs) = omega arith in
    rw (ne_eqb count number (λ q. omega arith)) (ahead bs (count + 1) n number (omega arith) ∙ ap (λ (m : ℕ). answer m (numbered bs n)) more)

pub resumed_none : (number : ℕ) (x : Blocks) → resumed number 0 None x ≡ walked_in x number
resumed_none number bad = refl
resumed_none number (whole bs) =
    let none : 0 + length bs ≡ length bs = omega arith in
    ahead bs 0 number number (omega arith) ∙ ap (λ (m : ℕ). answer m (numbered bs number)) none

resumed-block : (number count : ℕ) (wanted : Option Block) (b : Block) (x : Blocks) → resumed number count wanted (with_block b x) ≡ resumed number (count + 1) (wanted_or number count b wanted) x
resumed-block number count wanted b bad = refl
resumed-block number count wanted b (whole bs) = refl

abbrev pub Walking : List ℕ → ℕ → ℕ → ℕ → ℕ → Option Block → Type 0
Walking f at number place count wanted = resumed number count wanted (blocks_on f true place) ≡ walked_in (blocks_in f at) number

module _ (f : List ℕ) (at number : ℕ) where
  pub walking_start : Walking f at number at 0 None
  unfolding blocks_in
  walking_start = resumed_none number (blocks_on f true at)

  module _ (place count : ℕ) (wanted : Option Block) (w : Walking f at number place count wanted) where
    on : (z : Option Found) → z ≡ found_at f place → resumed number count wanted (going_on f z) ≡ walked_in (blocks_in f at) number
    on z e = rw e (ap (resumed number count wanted) (sym (blocks-standing f place)) ∙ w)

    pub walking-bad : None ≡ found_at f place → None ≡ walked_in (blocks_in f at) number
    walking-bad e = on None e

    pub walking-marker : (next : ℕ) → Some (Marker next) ≡ found_at f place → Walking f at number next count wanted
    walking-marker next e = on (Some (Marker next)) e

    module _ (b : Block) (next : ℕ) (x : Option Block) (e : Some (Whole b next) ≡ found_at f place) (q : x ≡ wanted_or number count b wanted) where
      after : resumed number (count + 1) x (blocks_on f false next) ≡ walked_in (blocks_in f at) number
      after = rw q (sym (resumed-block number count wanted b (blocks_on f false next)) ∙ on (Some (Whole b next)) e)

      pub walking-block : next < length f → Walking f at number next (count + 1) x
      walking-block h = ap (resumed number (count + 1) x) (blocks-either f next true false h) ∙ after

      pub walking-ended : length f ≤ next → answer (count + 1) x ≡ walked_in (blocks_in f at) number
      walking-ended h = ap (resumed number (count + 1) x) (sym (blocks-ended f next false h)) ∙ after
