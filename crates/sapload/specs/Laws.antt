-- Laws of loading a SAP file. `Bytes` says that a list holds bytes, as a file does.
-- size-refused       a memory of another size is refused with 40, whatever the file is
-- size-read          into 65,536 cells loading comes back with what reading does
-- accepted-first     an accepted file's header says where its blocks begin
-- accepted-whole     they are whole
-- accepted-good      each of them is good
-- memory_refused     a refusal changes no cell
-- What memory holds after loading stands in proofs/Memory.antt.
use Rattle.std.specs.Prelude.{ℕ, ◌≡◌, true, List, length}
use Rattle.std.proofs.Common.{sym}
use Rattle.std.proofs.Math.Path.{ap}
use borrow.Author.Tests.{eq-eqb, ne_eqb, not-false}
use Rattle.refusals.specs.Numbers.Outcome.{accepted, refused}
use Rattle.sapblocks.specs.Blocks.{are_whole, listed}
use Rattle.sapblocks.specs.Laws.{Bytes, GoodBlocks, blocks-good, whole-listed}
use Rattle.saptext.specs.Text.{text_in}
use Rattle.sapheader.specs.declared.Header.{Header}
use Rattle.sapheader.specs.Header.{header_for}
use Rattle.sap.specs.Answers.{end_in, blocks_after, sap_tests, header_in, sap_outcome}
use Rattle.sap.specs.Acceptance.{accepted_none, accepted-header}
use Rattle.sapload.specs.Loading.{sap_load_outcome, sap_memory_after}

-- '40, 41 and 42 are tested before the file': a memory of another size than 65,536 cells is refused with 40,
-- whatever the file is.
pub size-refused : (f : List ℕ) (cells : ℕ) → (cells ≡ 65536 → ⊥) → sap_load_outcome f cells ≡ refused 40 0
unfolding sap_load_outcome
size-refused f cells h = rw (ne_eqb cells 65536 h)

-- Of 65,536 cells loading comes back with what reading the file comes back with.
pub size-read : (f : List ℕ) (cells : ℕ) → cells ≡ 65536 → sap_load_outcome f cells ≡ sap_outcome f
unfolding sap_load_outcome
size-read f cells h = rw (eq-eqb cells 65536 h)

module _ (f : List ℕ) (h : Header) (e : sap_outcome f ≡ accepted h) where
  -- The header of an accepted file says where its first FF FF stands, at which its blocks begin.
  pub accepted-first : h.first ≡ end_in (text_in f)
  unfolding header_in header_for
  accepted-first = ap (λ (k : Header). k.first) (sym (accepted-header f h e))

  -- The blocks of an accepted file are whole.
  pub accepted-whole : are_whole (blocks_after f) ≡ true
  unfolding sap_tests
  accepted-whole = not-false (are_whole (blocks_after f)) (accepted_none f h e).1.1.1.0

  -- Each block of an accepted file is good.
  pub accepted-good : Bytes f → GoodBlocks f (listed (blocks_after f))
  accepted-good bytes = blocks-good f bytes (end_in (text_in f)) (listed (blocks_after f)) (whole-listed (blocks_after f) accepted-whole)

-- A refusal 'changes no lent memory': every cell is then as it stood.
pub memory_refused : (f m : List ℕ) (n place : ℕ) → sap_load_outcome f (length m) ≡ refused n place → sap_memory_after f m ≡ m
unfolding sap_memory_after
memory_refused f m n place e = rw e
