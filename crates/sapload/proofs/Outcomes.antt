-- The outcome of each way through a load, by the size of memory and by reading. Assumes nothing.
-- wrong_size   another size
-- load_refused, load_whole, load_done   the file refused; its blocks are whole, and memory with them
use Prim.Native.Nat.{ℕ}
use mathlib.Core.Path.{◌≡◌, sym, ◌∙◌}
use mathlib.Core.Bool.{true}
use mathlib.Core.List.{List}
use lib.ListN.{length}
use Rattle.refusals.specs.Numbers.Outcome.{accepted, refused}
use Rattle.sapblocks.specs.Blocks.{blocks_in, are_whole, listed}
use Rattle.sapput.specs.Putting.{blocks_put}
use Rattle.sapheader.specs.declared.Header.{Header}
use Rattle.sap.specs.Answers.{sap_outcome}
use Rattle.sapload.specs.Loading.{sap_load_outcome, sap_memory_after}
use Rattle.sapload.specs.Laws.{size-refused, size-read, accepted-first, accepted-whole, memory_refused}
use Rattle.sapload.proofs.Memory.{memory_loaded}

module _ (f m : List ℕ) where
  pub wrong_size : (length m ≡ 65536 → ⊥) → (refused 40 0 ≡ sap_load_outcome f (length m)) × (m ≡ sap_memory_after f m)
  wrong_size h = let e = size-refused f (length m) h in (sym e, sym (memory_refused f m 40 0 e))

  module _ (size : length m ≡ 65536) where
    pub load_refused : (n place : ℕ) → refused n place ≡ sap_outcome f → (refused n place ≡ sap_load_outcome f (length m)) × (m ≡ sap_memory_after f m)
    load_refused n place e = let is = size-read f (length m) size ∙ sym e in (sym is, sym (memory_refused f m n place is))

    module _ (h : Header) (e : accepted h ≡ sap_outcome f) where
      pub load_whole : are_whole (blocks_in f h.first) ≡ true
      load_whole = rw (accepted-first f h (sym e)) (accepted-whole f h (sym e))

      pub load_done : (after : List ℕ) → after ≡ blocks_put f (listed (blocks_in f h.first)) m → (accepted h ≡ sap_load_outcome f (length m)) × (after ≡ sap_memory_after f m)
      load_done after c =
          (e ∙ sym (size-read f (length m) size), rw (memory_loaded f h (sym e) m size, ← accepted-first f h (sym e)) c)
