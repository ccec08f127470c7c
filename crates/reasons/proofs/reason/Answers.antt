-- `reason` meets its contract: the number's reason has the table's phrase. Assumes nothing.
use Rattle.std.proofs.Common.{◌≡◌, ◌∙◌, ap, sym, length, List, ℕ}
use Rattle.fields.specs.Parts.{front}
use Rattle.answers.specs.Filling.{front_none}
use Rattle.reasons.specs.Phrases.{phrase_at}
use Rattle.reasons.proofs.Lines.{phrases-held}
use Rattle.reasons.proofs.Reasons.{phrase_numbered, phrase_unnumbered}
use Rattle.reasons.proofs.reason.Goals as goal

pub returns-in_default-clause-line : goal.returns-in_default-clause-line
returns-in_default-clause-line c =
    let none = phrase_unnumbered c.args.number _ (sym c.try_from.ensures ∙ c.in_default.is) in
    front_none c.args.out.now ∙ sym (ap (λ (l : List ℕ). front l c.args.out.now) (phrases-held c.args.number ∙ none))

pub returns : goal.returns
returns c =
    let found = phrase_numbered c.args.number _ (sym c.try_from.ensures ∙ c.in-Ok.is) in
    let text : c.as_bytes-phrase.result.now ≡ phrase_at c.args.number =
    c.as_bytes-phrase.ensures.value ∙ c.phrase_of.ensures ∙ found in
    let put = λ (l : List ℕ). front l c.args.out.now in
    record {
      answer = ap (λ (l : List ℕ). length l) text;
      cells = c.fill.ensures ∙ ap put text;
      line = c.fill.ensures ∙ ap put (text ∙ sym (phrases-held c.args.number));
    }
