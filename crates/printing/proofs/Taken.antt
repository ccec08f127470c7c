-- What a writer has taken of a text, after one write more and after a failed one.
-- taken_next    the first bytes of a text, and then some of the bytes after those
-- part_longer   a first part of a text is one of that text with another after it
-- part_after    a text, and then a first part of the next one
-- on_error      what holds of an error, from what else holds of it
-- of_error      what holds of an error because it holds
use Rattle.std.specs.Prelude.{ℕ, ◌+◌, ◌≤◌, List, ◌++◌, length, take, Option, Result}
use Rattle.std.specs.Prelude.{Ok, Err, OnErr, slice_range}
use Rattle.std.proofs.Common.{arith, sym, ap, ◌∙◌, subst, length-append}
use Rattle.std.proofs.lemmas.List.{take-append-le, take_rest}
use Rattle.std.proofs.Math.Seq.{take-append-add}
use lib.Seq.{take-add}
use Rattle.std.specs.Io.KnownBytes.{Appends}
use Rattle.std.proofs.KnownBytes.{Appends-trans}
use Rattle.printing.specs.Writing.{TakesPart}

pub on_error : {T E P Q : Type 0} (r : Result T E) → (P → Q) → OnErr r P → OnErr r Q
on_error (Ok x) f h = tt
on_error (Err e) f h = f h

pub of_error : {T E Q : Type 0} (r : Result T E) → Q → OnErr r Q
of_error (Ok x) h = tt
of_error (Err e) h = h

pub part_longer : (a b : Option (List ℕ)) (first next : List ℕ) → TakesPart a b first
    → TakesPart a b (first ++ next)
part_longer a b first next (k, less, taken) =
    let within : k ≤ length first = omega (arith, less) in (
      k,
      simp length-append (omega (arith, less)),
      subst (Appends a b) (sym (take-append-le k first next within)) taken,
    )

module _ (a b c : Option (List ℕ)) where
  pub taken_next : (text : List ℕ) (k n : ℕ) → Appends a b (take k text)
      → Appends b c (take n (slice_range text k (length text))) → Appends a c (take (k + n) text)
  taken_next text k n first next =
      let rest = slice_range text k (length text) in
      subst (Appends a c) (ap (λ l. take k text ++ take n l) (take_rest text k) ∙ sym (take-add k n text))
      (Appends-trans a b c (take k text) (take n rest) first next)

  pub part_after : (first next : List ℕ) → Appends a b first → TakesPart b c next
      → TakesPart a c (first ++ next)
  part_after first next whole (k, less, taken) = (
    length first + k,
    simp length-append (omega (arith, less)),
    subst (Appends a c) (sym (take-append-add first next k))
        (Appends-trans a b c first (take k next) whole taken),
  )
