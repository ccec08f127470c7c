-- A value's text, made in a line and then written.
-- holds_printed   a line that was empty holds what the value prints
-- whole_printed   a writer that has taken the whole line has taken that
-- part_printed    a writer that has taken a first part of the line has taken one of that
use Rattle.std.specs.Prelude.{ℕ, ◌≡◌, List, [], ◌++◌, Option, Some, None, IfSome}
use Rattle.std.proofs.Common.{ap, ◌∙◌, subst}
use Rattle.std.specs.Io.KnownBytes.{Appends}
use Rattle.std.specs.Fmt.{WritesText}
use Rattle.std.proofs.lemmas.Fmt.{contents_after_writes}
use Rattle.arrayvec.specs.ArrayString.{ArrayString}
use Rattle.printing.specs.Writing.{TakesPart, AppendsPrinted, TakesPartOfPrinted}

abbrev bytes_of : ArrayString → List ℕ
bytes_of s = s.bytes

abbrev pub Puts : ArrayString → List ℕ → ArrayString → Type 0
Puts s text t = t.bytes ≡ s.bytes ++ text

pub holds_printed : (start line : ArrayString) (o : Option (List ℕ)) → start.bytes ≡ []
    → WritesText Puts start o line → IfSome o (λ text. line.bytes ≡ text)
holds_printed start line None empty puts = tt
holds_printed start line (Some text) empty puts =
    contents_after_writes Puts bytes_of (λ s p t taken. taken) start text line puts
    ∙ ap (λ (l : List ℕ). l ++ text) empty

module _ (a b : Option (List ℕ)) (line : List ℕ) where
  pub whole_printed : (o : Option (List ℕ)) → IfSome o (λ text. line ≡ text) → Appends a b line
      → AppendsPrinted a b o
  whole_printed None same taken = tt
  whole_printed (Some text) same taken = subst (Appends a b) same taken

  pub part_printed : (o : Option (List ℕ)) → IfSome o (λ text. line ≡ text) → TakesPart a b line
      → TakesPartOfPrinted a b o
  part_printed None same part = tt
  part_printed (Some text) same part = λ some. subst (TakesPart a b) same part
