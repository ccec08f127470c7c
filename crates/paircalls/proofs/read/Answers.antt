-- `paircalls::read` meets its contract: a note by the first byte, else a command.
use Prim.Native.Nat.{ℕ, ◌%◌}
use mathlib.Core.Path.{◌≡◌, sym, ap, ◌∙◌}
use borrow.Author.Tests.{ne_eqb}
use Rattle.refusals.specs.Numbers.{outcome_of}
use Rattle.command.specs.Pair.{command_outcome}
use Rattle.pair.specs.Pairs.{meaning_of}
use Rattle.codes.specs.Coding.{code_of}
use Rattle.codelaws.proofs.Laws.{coding_and_decoding}
use Rattle.answers.specs.Answers.{packed}
use Rattle.answers.specs.Apart.{unplaced-fits}
use Rattle.paircalls.proofs.read.Goals as goal

command-meant : (a b : ℕ) → (a % 4 ≡ 0 → ⊥) → command_outcome a b ≡ meaning_of a b
command-meant a b h = rw (ne_eqb (a % 4) 0 h)

pub refused-requires : goal.refused-requires
refused-requires c =
    let a = c.args in
    unplaced-fits
    (coding_and_decoding.pair-refused a.first a.second _ _
    (sym (command-meant a.first a.second c.if-first-eq0.false)
    ∙ sym c.read_command.ensures ∙ ap outcome_of c.in-Err.is)).1

pub returns-in-Ok : goal.returns-in-Ok
returns-in-Ok c =
    let a = c.args in
    c.code_of.ensures
    ∙ ap (packed code_of) (ap outcome_of (sym c.in-Ok.is) ∙ c.read_command.ensures ∙ command-meant a.first a.second c.if-first-eq0.false)
