-- `entry_at` meets its contract: std's pieces between marks are the entries. Assumes nothing.
use Rattle.std.specs.Prelude.{◌==◌}
use Rattle.std.proofs.Common.{rules, ap, [], ◌∙◌}
use Rattle.std.proofs.lemmas.Option.{unwrap_or-slice_get}
use Rattle.std.proofs.lemmas.Iterator.Splits.{YieldsList-from_slice_split}
use Rattle.std.proofs.lemmas.Iterator.Consumers.{nth_from_yields_List}
use Rattle.std.specs.Prelude.{unwrap_or}
use Rattle.std.specs.List.{slice_split}
use borrow.Author.Tests.{tests}
use Rattle.fields.proofs.Pieces.{now_of, piece_entry}
use Rattle.fields.proofs.entry_at.Goals as goal

pub returns : goal.returns
returns c =
    let a = c.args in
    let piece = nth_from_yields_List _ _ a.number c.nth.ensures.ran
    (YieldsList-from_slice_split _ (λ b. b == a.mark) a.list.now c.split.ensures.rest c.split.ensures.done c.split.ensures.closure (λ x b q k. search (rules, tests))) in
    ap (λ r. r.now) c.unwrap_or.ensures
    ∙ now_of c.nth.result _
    ∙ ap (λ r. unwrap_or r []) piece
    ∙ unwrap_or-slice_get (slice_split (λ b. b == a.mark) a.list.now) a.number []
    ∙ piece_entry a.mark a.list.now a.number
