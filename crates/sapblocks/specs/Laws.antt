-- Laws of the blocks of a SAP file.
-- skip_drop       what is skipped first is not looked at: the first number of blocks_from is only a start
--                 further on
-- blocks_on        the blocks of a file from an offset on, at which a block must follow or need not
-- going_on         the blocks from an offset on, by what stands there
-- blocks-ended    at the file's end there are no more, and none may be missing
-- blocks-found    before it, they are what stands there and the blocks after it
-- blocks-either   before it, it makes no difference whether a block must follow
-- blocks-standing   where a block must follow the blocks are so at the file's end too
-- found-there     where something stands, it is before the file's end
-- Known           what is known of what stands at an offset
-- found-known     so of what is found there
-- blocks-through  what each step keeps holds of the blocks of a file
-- blocks-some     where the blocks are whole there is at least one
-- numbered-past   there is no block of a number past the last
-- numbered-there  and there is one of each number below how many there are
-- Bytes           every number of a list is that of a byte
-- GoodBlock       what a block of a file satisfies; GoodBlocks that each of a list does
-- found-good      a block that is found does
-- blocks-good     where the blocks are whole each of them does
-- good-numbered   and so the one of each number
-- whole-listed    blocks that are whole are those listed
-- walked-spoilt, walked-counted   what the answer to a walk says of the blocks
use Prim.Native.Nat.{ℕ, zero, suc, ◌+◌, ◌<◌, ◌≤◌}
use Rattle.std.specs.Prelude.{Option, Some, None, ◌≡◌, Bool, cond, ◌||◌, get_or}
use Rattle.std.proofs.Math.Path.{refl, ap}
use Rattle.std.proofs.Common.{sym, ◌∙◌, arith, drop_of_length-le}
use Rattle.std.proofs.Math.Bool.{true, false}
use mathlib.Core.List.{List, [], ◌∷◌}
use Rattle.std.proofs.Math.ListN.{length, drop, length-drop}
use Rattle.std.proofs.Math.Seq.{drop-drop, get_or-drop}
use Rattle.std.proofs.Math.Dec.{ltb}
use borrow.Author.Tests.{ltb-true, ltb-false}
use Rattle.logic.specs.Cases.{cases}
use Rattle.logic.specs.Truth.{neither}
use Rattle.fields.specs.Numbers.{le16}
use Rattle.sapblocks.specs.declared.Block.{Block}
use Rattle.sapblocks.specs.declared.Found.{Found}
use Rattle.sapblocks.specs.declared.Found.TheVariants.{Marker, Whole}
use Rattle.sapblocks.specs.declared.Walked.{Walked}
use Rattle.sapblocks.specs.Blocks.{marker, start_in, end_in, size_of, touches, bad_block, block_at, Blocks, with_block, blocks_from, blocks_in, are_whole, listed}
use Rattle.sapblocks.specs.Blocks.Blocks.{bad, whole}
use Rattle.sapblocks.specs.Answers.{found_at, numbered, walked_in}

-- To skip k bytes first is to begin k bytes further on.
pub skip_drop : (k : ℕ) (must : Bool) (at : ℕ) (s : List ℕ) → blocks_from k must at s ≡ blocks_from 0 must (at + k) (drop k s)
unfolding blocks_from
skip_drop zero must at s = let same : at ≡ at + 0 = omega arith in ap (λ (n : ℕ). blocks_from 0 must n s) same
skip_drop (suc k) must at [] = refl
skip_drop (suc k) must at (b ∷ bs) =
    let same : at + 1 + k ≡ at + suc k = omega arith in
    skip_drop k must (at + 1) bs ∙ ap (λ (n : ℕ). blocks_from 0 must n (drop k bs)) same

abbrev pub blocks_on : List ℕ → Bool → ℕ → Blocks
blocks_on f must at = blocks_from 0 must at (drop at f)

abbrev pub going_on : List ℕ → Option Found → Blocks
going_on f None = bad
going_on f (Some (Marker next)) = blocks_on f true next
going_on f (Some (Whole b next)) = with_block b (blocks_on f false next)

-- the front of bytes, of which there is one at least
front : (must : Bool) (at : ℕ) (s : List ℕ) → 0 < length s
    → blocks_from 0 must at s
    ≡ cond (marker s) (blocks_from 1 true (at + 1) (drop 1 s)) (cond (bad_block s) bad (with_block (block_at at s) (blocks_from (3 + size_of (start_in s) (end_in s)) false (at + 1) (drop 1 s))))
unfolding blocks_from
front must at [] h = absurd (omega arith)
front must at (b ∷ bs) h = refl

module _ (f : List ℕ) (at : ℕ) where
  -- k bytes are skipped after the first
  further : (must : Bool) (k next : ℕ) → next ≡ at + 1 + k → blocks_from k must (at + 1) (drop 1 (drop at f)) ≡ blocks_on f must next
  further must k next e = rw (e, drop-drop 1 at f) (skip_drop k must (at + 1) (drop (at + 1) f) ∙ rw (drop-drop k (at + 1) f))

  -- At the file's end there are no more blocks; where one must follow, it is missing.
  pub blocks-ended : (must : Bool) → length f ≤ at → blocks_on f must at ≡ cond must bad (whole [])
  unfolding blocks_from
  blocks-ended must h = rw (drop_of_length-le f h)

  -- Before the file's end the blocks are what stands there, FF FF or a block, and the blocks after it.
  pub blocks-found : (must : Bool) → at < length f → blocks_on f must at ≡ going_on f (found_at f at)
  unfolding found_at
  blocks-found must h =
      let s = drop at f in
      let size = size_of (start_in s) (end_in s) in
      let some : 0 < length s = omega (arith, length-drop at f) in
      front must at s some
      ∙ cases (marker s) (λ m. rw m (further true 1 (at + 2) (omega arith)))
      (λ m. rw m (cases (bad_block s) (λ e. rw e) (λ e. rw e (ap (with_block (block_at at s)) (further false (3 + size) (at + 4 + size) (omega arith))))))

  -- Before the file's end it makes no difference whether a block must follow.
  pub blocks-either : (must other : Bool) → at < length f → blocks_on f must at ≡ blocks_on f other at
  blocks-either must other h = blocks-found must h ∙ sym (blocks-found other h)

  -- At the file's end nothing stands.
  found-ended : length f ≤ at → found_at f at ≡ None
  unfolding found_at
  found-ended h = rw (drop_of_length-le f h)

  -- Where a block must follow the blocks are what stands there and the blocks after it, at the file's end
  -- too.
  pub blocks-standing : blocks_on f true at ≡ going_on f (found_at f at)
  blocks-standing =
      cases (ltb at (length f)) (λ h. blocks-found true (ltb-true at (length f) h))
      (λ h. let past = ltb-false at (length f) h in rw (found-ended past) (blocks-ended true past))

  -- What stands at an offset stands before the file's end.
  pub found-there : (x : Found) → Some x ≡ found_at f at → at < length f
  found-there x e =
      cases (ltb at (length f)) (ltb-true at (length f))
      (λ h. absurd (let none : ◌≡◌ {A = Option Found} (Some x) None = e ∙ found-ended (ltb-false at (length f) h) in let z : ◌≡◌ {A = ℕ} 0 1 = cc in omega arith))

  abbrev pub Known : Option Found → Type 0
  Known None = Unit
  Known (Some (Marker next)) = next ≡ at + 2
  Known (Some (Whole b next)) = (bad_block (drop at f) ≡ false) × (b ≡ block_at at (drop at f)) × (next ≡ at + 4 + size_of b.start b.end)

  -- Of what is found at an offset: where it ends, and of a block that it is not bad and which it is.
  pub found-known : (z : Option Found) → z ≡ found_at f at → Known z
  unfolding found_at
  found-known z e =
      let s = drop at f in
      rw e (cases (marker s) (λ m. rw m refl) (λ m. rw m (cases (bad_block s) (λ x. rw x tt) (λ x. rw x (x, refl, refl)))))

-- where a block is bad or missing the blocks are not whole
not_bad : {A : Type 0} {bs : List Block} → bad ≡ whole bs → A
not_bad e = absurd (let z : ◌≡◌ {A = ℕ} 0 1 = cc in omega arith)

-- the blocks after a block
rest_of : {A : Type 0} {b : Block} {bs : List Block} (x : Blocks) → with_block b x ≡ whole bs → ((rest : List Block) → x ≡ whole rest → bs ≡ b ∷ rest → A) → A
rest_of bad e k = not_bad e
rest_of (whole rest) e k = k rest refl (cc)

-- What holds of no blocks where none must follow, and still holds with FF FF in front, and with a block in
-- front that is not bad, holds of the blocks of a file from each offset on.
module _ (f : List ℕ) (P : Bool → List Block → Type 0) (none : P false []) (marked : (must : Bool) (bs : List Block) → P true bs → P must bs)
    (blocked : (must : Bool) (at : ℕ) (bs : List Block) → bad_block (drop at f) ≡ false → P false bs → P must (block_at at (drop at f) ∷ bs)) where
  through : (s : List ℕ) (skip : ℕ) (must : Bool) (at : ℕ) (bs : List Block) → s ≡ drop at f → blocks_from skip must at s ≡ whole bs → P must bs
  unfolding blocks_from
  through [] skip true at bs d e = not_bad e
  through [] skip false at bs d e = let same : bs ≡ [] = cc in rw same none
  through (b ∷ s) (suc skip) must at bs d e = through s skip must (at + 1) bs (ap (drop 1) d ∙ drop-drop 1 at f) e
  through (b ∷ s) zero must at bs d e =
      let t = b ∷ s in
      let size = size_of (start_in t) (end_in t) in
      let on : s ≡ drop (at + 1) f = ap (drop 1) d ∙ drop-drop 1 at f in
      cases (marker t) (λ m. marked must bs (through s 1 true (at + 1) bs on (rw m at e)))
      (λ m. cases (bad_block t) (λ x. not_bad (rw (m, x) at e)) (λ x. rest_of (blocks_from (3 + size) false (at + 1) s) (rw (m, x) at e) (λ rest p q. rw (q, ap (block_at at) d) (blocked must at rest (ap bad_block (sym d) ∙ x) (through s (3 + size) false (at + 1) rest on p)))))

  pub blocks-through : (must : Bool) (at : ℕ) (bs : List Block) → blocks_on f must at ≡ whole bs → P must bs
  blocks-through must at bs = through (drop at f) 0 must at bs refl

-- Where the blocks of a file are whole there is at least one.
pub blocks-some : (f : List ℕ) (at : ℕ) (bs : List Block) → blocks_in f at ≡ whole bs → 0 < length bs
unfolding blocks_in
blocks-some f at bs e =
    blocks-through f (λ must bs. must ≡ true → 0 < length bs) (λ t. let z : ◌≡◌ {A = ℕ} 0 1 = cc in omega arith) (λ must bs p t. p refl) (λ must at bs b p t. omega arith) true at bs e refl

-- There is no block of a number past the last.
pub numbered-past : (bs : List Block) (n : ℕ) → length bs ≤ n → numbered bs n ≡ None
numbered-past [] n h = refl
numbered-past (b ∷ bs) zero h = absurd (omega arith)
numbered-past (b ∷ bs) (suc n) h = numbered-past bs n (omega arith)

-- Of each number below how many there are there is a block, the one at that place of the list.
pub numbered-there : (bs : List Block) (n : ℕ) (d : Block) → n < length bs → numbered bs n ≡ Some (get_or bs n d)
numbered-there [] n d h = absurd (omega arith)
numbered-there (b ∷ bs) zero d h = refl
numbered-there (b ∷ bs) (suc n) d h = numbered-there bs n d (omega arith)

abbrev pub Bytes : List ℕ → Type 0
Bytes s = (i : ℕ) → get_or s i 0 < 256

pub record GoodBlock (f : List ℕ) (b : Block) : Type 0 where
  -- its start is not after its end
  pub ordered : b.start ≤ b.end
  -- its cells are cells of memory
  pub in_memory : b.end < 65536
  -- it does not touch 02E0 to 02E3
  pub apart : touches b.start b.end ≡ false
  -- its data lie in the file
  pub in_file : b.from + size_of b.start b.end ≤ length f

abbrev pub GoodBlocks : List ℕ → List Block → Type 0
GoodBlocks f [] = Unit
GoodBlocks f (b ∷ bs) = GoodBlock f b × GoodBlocks f bs

module _ (f : List ℕ) (bytes : Bytes f) where
  good_at : (at : ℕ) → bad_block (drop at f) ≡ false → GoodBlock f (block_at at (drop at f))
  unfolding le16
  good_at at e =
      let s = drop at f in
      let short = ltb (length s) 4 in
      let after = ltb (end_in s) (start_in s) in
      let size = size_of (start_in s) (end_in s) in
      let p = neither (short || after || touches (start_in s) (end_in s)) (ltb (length s) (4 + size)) e in
      let q = neither (short || after) (touches (start_in s) (end_in s)) p.0 in
      record {
        ordered = ltb-false (end_in s) (start_in s) (neither short after q.0).1;
        in_memory = rw (get_or-drop at f 2 0, get_or-drop at f 3 0) (omega (arith, bytes (at + 2), bytes (at + 3)));
        apart = q.1;
        in_file = omega (arith, length-drop at f, ltb-false (length s) (4 + size) p.1);
      }

  -- A block that is found at an offset is good.
  pub found-good : (at : ℕ) (b : Block) (next : ℕ) → Some (Whole b next) ≡ found_at f at → GoodBlock f b
  found-good at b next e = let k = found-known f at (Some (Whole b next)) e in rw k.1 (good_at at k.0)

  -- Where the blocks of a file are whole each of them is good.
  pub blocks-good : (at : ℕ) (bs : List Block) → blocks_in f at ≡ whole bs → GoodBlocks f bs
  unfolding blocks_in
  blocks-good at bs =
      blocks-through f (λ must bs. GoodBlocks f bs) tt (λ must bs p. p) (λ must at bs e p. (good_at at e, p)) true at bs

-- Where each block is good, so is the one of each number.
pub good-numbered : (f : List ℕ) (bs : List Block) (n : ℕ) (b : Block) → GoodBlocks f bs → Some b ≡ numbered bs n → GoodBlock f b
good-numbered f [] n b g e = absurd (let z : ◌≡◌ {A = ℕ} 0 1 = cc in omega arith)
good-numbered f (x ∷ bs) zero b g e = let same : b ≡ x = cc in rw same g.0
good-numbered f (x ∷ bs) (suc n) b g e = good-numbered f bs n b g.1 e

-- Blocks that are whole are those listed.
pub whole-listed : (x : Blocks) → are_whole x ≡ true → x ≡ whole (listed x)
whole-listed bad e = absurd (let z : ◌≡◌ {A = ℕ} 0 1 = cc in omega arith)
whole-listed (whole bs) e = refl

-- Where a walk finds nothing the blocks are not whole.
pub walked-spoilt : (x : Blocks) (n : ℕ) → None ≡ walked_in x n → are_whole x ≡ false
walked-spoilt bad n e = refl
walked-spoilt (whole bs) n e = cc

-- Where a walk counts blocks they are whole, and it gives how many are listed and the one of the number.
pub walked-counted : (x : Blocks) (n : ℕ) (w : Walked) → Some w ≡ walked_in x n → (are_whole x ≡ true) × (w.count ≡ length (listed x)) × (w.wanted ≡ numbered (listed x) n)
walked-counted bad n w e = absurd (let z : ◌≡◌ {A = ℕ} 0 1 = cc in omega arith)
walked-counted (whole bs) n w e = (refl, (cc), (cc))
