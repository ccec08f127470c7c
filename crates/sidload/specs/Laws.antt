-- Laws of loading.
-- load_headed     the outcome of the tests, with the header made, is that of the call
-- memory_loaded   an accepted file puts its payload into a memory of 65,536 cells, and nothing else
-- memory_refused  a refusal changes no cell
-- memory_length   loading never changes how many cells there are
use Rattle.std.specs.Prelude.{ℕ, ◌≡◌, refl, not, List, [], ◌∷◌, length, drop, eqb}
use Rattle.std.proofs.Common.{ap, ◌∙◌, arith, length-take, eqb-true, eq-eqb}
use Rattle.logic.specs.Cases.{cases}
use Rattle.refusals.specs.Numbers.{Outcome}
use Rattle.refusals.specs.Numbers.Outcome.{accepted, refused}
use Rattle.refusals.specs.declared.Reason.TheVariants.{MemorySize}
use Rattle.refusals.specs.Tests.{test, first_of, guarded}
use Rattle.fields.specs.Parts.{put, part_of}
use Rattle.fields.proofs.Memory.{length-put}
use Rattle.sidheader.specs.declared.Parts.{Parts}
use Rattle.sid.specs.declared.Header.{Header}
use Rattle.sid.specs.Answers.{sid_outcome, tested_outcome, headed}
use Rattle.sid.specs.Laws.{headed-guarded, read-headed, accepted-fits}
use Rattle.sidload.specs.Loading.{load_outcome, put_outcome, memory_with, memory_after}

-- What putting comes back with, with its header made, is what loading comes back with.
pub load_headed : (f : List ℕ) (cells : ℕ) (o : Outcome Parts) → o ≡ put_outcome f cells → headed f o ≡ load_outcome f cells
unfolding put_outcome load_outcome
load_headed f cells o e =
    let size = first_of (test MemorySize (not (eqb cells 65536)) ∷ []) in
    ap (headed f) e ∙ headed-guarded f size (tested_outcome f) ∙ ap (guarded size) (read-headed f (tested_outcome f) refl)

-- 'Loading leaves every cell but the payload's as it stood': an accepted file's payload is put into a memory
-- of 65,536 cells, and nothing else.
pub memory_loaded : (f m : List ℕ) (h : Header) → length m ≡ 65536 → sid_outcome f ≡ accepted h → memory_after f m ≡ put m h.load (part_of f h.payload)
unfolding memory_after load_outcome
memory_loaded f m h size e = rw (eq-eqb (length m) 65536 size, e)

-- A refusal 'changes no lent memory': every cell is then as it stood.
pub memory_refused : (f m : List ℕ) (n place : ℕ) → load_outcome f (length m) ≡ refused n place → memory_after f m ≡ m
unfolding memory_after
memory_refused f m n place e = rw e

-- Loading never changes how many cells there are.
pub memory_length : (f m : List ℕ) → length (memory_after f m) ≡ length m
unfolding memory_after load_outcome
memory_length f m = cases (eqb (length m) 65536) (λ p. rw p (go (eqb-true (length m) 65536 p) (sid_outcome f) refl)) (λ p. rw p)
  where
    go : length m ≡ 65536 → (o : Outcome Header) → sid_outcome f ≡ o → length (memory_with o f m) ≡ length m
    go size (refused n place) e = refl
    go size (accepted h) e =
        length-put m h.load (part_of f h.payload)
        (omega (arith, accepted-fits f h e, length-take h.payload.len (drop h.payload.from f)))
