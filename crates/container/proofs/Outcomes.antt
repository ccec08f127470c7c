-- The outcome of each way through the reading. Assumes nothing.
-- numbers_failed, numbers-passed   the head, by the verdict of its tests
-- end-within                 the voices of a file whose head is right end within its first 65,536 bytes
-- by_text                    the outcome of a file whose head is right, by the tests of its text
-- text_failed, text-passed   by their verdict
use Prim.Native.Nat.{ℕ, ◌≤◌}
use mathlib.Core.Path.{◌≡◌, ap}
use mathlib.Core.List.{List}
use native.Mathlib.Omega.{arith}
use lib.ListN.{length}
use Rattle.refusals.specs.declared.Reason.{Reason}
use Rattle.refusals.specs.Numbers.{number_of}
use Rattle.refusals.specs.Numbers.Outcome.{accepted, refused}
use Rattle.std.specs.Prelude.{Ok, Err}
use Rattle.refusals.specs.Tests.{first_of, guarded}
use Rattle.refusals.specs.Laws.{none_passed, first_append}
use Rattle.container.specs.declared.head.Head.{Head}
use Rattle.container.specs.declared.Voices.{Voices}
use Rattle.container.specs.declared.text.Text.{Text}
use Rattle.container.specs.declared.Layout.{Layout}
use Rattle.container.specs.Head.{head_of, voices_of, head_tests, head_outcome}
use Rattle.container.specs.Text.{text_of, text_tests}
use Rattle.container.specs.Layout.{placed, text_in, layout_of, container_tests, container_outcome}
use Rattle.container.specs.Laws.{head_none, head-fits}

module _ (f : List ℕ) (x : Head) (ex : x ≡ head_of f) where
  pub numbers_failed : (r : Reason) → first_of (head_tests x) ≡ Err r → refused (number_of r) 0 ≡ head_outcome f
  unfolding head_outcome
  numbers_failed r e = rw (← ex, e)

  pub numbers-passed : (v : Voices) → v ≡ voices_of x → first_of (head_tests x) ≡ Ok tt → accepted v ≡ head_outcome f
  unfolding head_outcome
  numbers-passed v ev e = rw (← ex, e, ev)

pub end-within : (f : List ℕ) (v : Voices) → head_outcome f ≡ accepted v → v.end ≤ 65536
end-within f v e =
    let h = head_none f v e in
    let fits = head-fits f h.0 in
    omega (arith, fits.short, fits.within, ap (λ (w : Voices). w.end) h.1)

module _ (f : List ℕ) (v : Voices) (ev : head_outcome f ≡ accepted v) (t : Text) (et : t ≡ text_of f v.end) where
  by_text : container_outcome f ≡ guarded (first_of (text_tests t (length f))) (accepted (placed v t))
  unfolding container_outcome container_tests layout_of
  by_text =
      let h = head_none f v ev in
      rw (first_append (head_tests (head_of f)) (text_tests (text_in f) (length f)), none_passed (head_tests (head_of f)) h.0, et, ← h.1)

  pub text_failed : (r : Reason) → first_of (text_tests t (length f)) ≡ Err r → refused (number_of r) 0 ≡ container_outcome f
  text_failed r e = rw (by_text, e)

  pub text-passed : (l : Layout) → l ≡ placed v t → first_of (text_tests t (length f)) ≡ Ok tt → accepted l ≡ container_outcome f
  text-passed l el e = rw (by_text, e, el)
