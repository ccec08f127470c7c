-- `test` meets its contract: each way is a law of `Outcomes`. Assumes nothing.
use mathlib.Core.Path.{sym, ap, ◌∙◌}
use Rattle.std.proofs.lemmas.Result.{err_from_is_err_and}
use Rattle.saptext.specs.Laws.{read_known}
use Rattle.sap.specs.Answers.{moment_for}
use Rattle.sap.proofs.Outcomes.{lacking, present, line_failed, text_failed, cells-most, tags_failed, blocks_failed, all_passed}
use Rattle.sap.proofs.test.Goals as goal

pub returns-then-not-begins : goal.returns-then-not-begins
returns-then-not-begins c = rw c.into.ensures (line_failed c.args.file.now c.args.song c.args.block (sym c.begins.ensures ∙ c.if-not-begins.true))

pub returns-in_default : goal.returns-in_default
returns-in_default c =
    rw c.into-in_default.ensures (text_failed c.args.file.now c.args.song c.args.block (sym c.begins.ensures ∙ c.if-not-begins.false) (sym c.in_default.is ∙ c.read_lines-read.ensures))

pub returns-then-is_against : goal.returns-then-is_against
returns-then-is_against c =
    let known = read_known _ _ c.in-Some.lines (sym c.in-Some.is ∙ c.read_lines-read.ensures) in
    rw c.into-then-is_against.ensures (tags_failed c.args.file.now c.args.song c.args.block _ known (sym c.begins.ensures ∙ c.if-not-begins.false) (sym c.is_against.ensures ∙ c.if-is_against.true))

pub header_of-header-requires : goal.header_of-header-requires
header_of-header-requires c =
    cells-most c.args.file.now c.args.song c.args.block _ (read_known _ _ c.in-Some.lines (sym c.in-Some.is ∙ c.read_lines-read.ensures))

pub returns-in_err-walked : goal.returns-in_err-walked
returns-in_err-walked c =
    let known = read_known _ _ c.in-Some.lines (sym c.in-Some.is ∙ c.read_lines-read.ensures) in
    let p = err_from_is_err_and c.from_residual.result c.from_residual.ensures.1 in
    let none = lacking c.walk.result _ _ (sym c.in_err-walked.was ∙ c.ok_or.ensures.value) in
    rw (p.1, p.2, none.1)
    (blocks_failed c.args.file.now c.args.song c.args.block _ known (sym c.begins.ensures ∙ c.if-not-begins.false) (sym c.is_against.ensures ∙ c.if-is_against.false) (sym none.0 ∙ c.walk.ensures))

pub returns : goal.returns
returns c =
    let known = read_known _ _ c.in-Some.lines (sym c.in-Some.is ∙ c.read_lines-read.ensures) in
    let walked = present c.walk.result _ _ (sym c.in_ok-walked.was ∙ c.ok_or.ensures.value) in
    all_passed c.args.file.now c.args.song c.args.block _ known (sym c.begins.ensures ∙ c.if-not-begins.false) (sym c.is_against.ensures ∙ c.if-is_against.false) _ _ _
    (sym walked ∙ c.walk.ensures) c.header_of-header.ensures (c.moment_for-time.ensures ∙ ap moment_for c.stated.ensures)
