-- The outcome of each way through a load, by the size of memory and by the tests. Assumes nothing.
-- wrong_size   another size
-- put_refused, put_fits, put_done   the file refused; its payload fits, and where it is then
-- load_refused, load_done   so of `load`, by the outcome of putting
use Prim.Native.Nat.{ℕ, ◌+◌, ◌≤◌}
use mathlib.Core.Path.{◌≡◌, sym}
use mathlib.Core.List.{List}
use native.Mathlib.Omega.{arith}
use lib.ListN.{length, take, drop, length-take}
use borrow.Author.Tests.{eq-eqb, ne_eqb}
use Rattle.refusals.specs.Numbers.Outcome.{accepted, refused}
use Rattle.fields.specs.Parts.{put}
use Rattle.sidheader.specs.declared.Parts.{Parts}
use Rattle.sid.specs.Header.{header_of}
use Rattle.sid.specs.Answers.{tested_outcome}
use Rattle.sid.specs.Laws.{read-headed, accepted-fits}
use Rattle.sidload.specs.Laws.{load_headed}
use Rattle.sidload.specs.Loading.{load_outcome, put_outcome, memory_after}

module _ (f m : List ℕ) where
  pub wrong_size : (length m ≡ 65536 → ⊥) → (refused 40 0 ≡ put_outcome f (length m)) × (m ≡ memory_after f m)
  unfolding put_outcome load_outcome memory_after
  wrong_size h = let size = ne_eqb (length m) 65536 h in (rw size, rw size)

  module _ (size : length m ≡ 65536) where
    pub put_refused : (n place : ℕ) → refused n place ≡ tested_outcome f → (refused n place ≡ put_outcome f (length m)) × (m ≡ memory_after f m)
    unfolding put_outcome load_outcome memory_after
    put_refused n place e =
        let right = eq-eqb (length m) 65536 size in
        (rw (right, ← e), rw (right, ← read-headed f (refused n place) e))

    module _ (t : Parts) (e : accepted t ≡ tested_outcome f) where
      pub put_fits : t.payload.load + length (take t.payload.len (drop t.payload.from f)) ≤ length m
      unfolding header_of
      put_fits = omega (arith, accepted-fits f (header_of f t.fields t.payload) (sym (read-headed f (accepted t) e)), length-take t.payload.len (drop t.payload.from f))

      pub put_done : (after : List ℕ) → after ≡ put m t.payload.load (take t.payload.len (drop t.payload.from f)) → (accepted t ≡ put_outcome f (length m)) × (after ≡ memory_after f m)
      unfolding put_outcome load_outcome memory_after header_of
      put_done after c =
          let right = eq-eqb (length m) 65536 size in
          (rw (right, ← e), rw (right, ← read-headed f (accepted t) e) c)

  pub load_refused : (n place cells : ℕ) → refused n place ≡ put_outcome f cells → refused n place ≡ load_outcome f cells
  load_refused n place cells e = load_headed f cells (refused n place) e

  pub load_done : (t : Parts) (cells : ℕ) → accepted t ≡ put_outcome f cells → accepted (header_of f t.fields t.payload) ≡ load_outcome f cells
  load_done t cells e = load_headed f cells (accepted t) e
