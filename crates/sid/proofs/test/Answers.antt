-- `test` meets its contract: each way through its tests is a law of `Outcomes`. Assumes nothing.
use mathlib.Core.Path.{refl}
use Rattle.std.proofs.lemmas.Result.{err_from_is_err_and}
use Rattle.sid.proofs.Outcomes.{too_short_lem, header_failed, payload_failed, all_passed}
use Rattle.sid.proofs.test.Goals as goal

pub returns-then-file-lt-SHORTEST : goal.returns-then-file-lt-SHORTEST
returns-then-file-lt-SHORTEST c = rw c.into.ensures (too_short_lem c.args.file.now c.if-file-lt-SHORTEST.true)

pub returns-in_err-test_header : goal.returns-in_err-test_header
returns-in_err-test_header c =
    let p = err_from_is_err_and c.from_residual.result c.from_residual.ensures.1 in
    rw (p.1, p.2) (header_failed _ _ _ c.read_fields-fields.ensures refl _ c.in_err-test_header.ensures)

pub returns-in_err-test_payload : goal.returns-in_err-test_payload
returns-in_err-test_payload c =
    let p = err_from_is_err_and c.from_residual-in_err-test_payload.result c.from_residual-in_err-test_payload.ensures.1 in
    rw (p.1, p.2)
    (payload_failed _ _ _ c.read_fields-fields.ensures c.payload_of-payload.ensures _ c.in_ok-test_header.ensures c.in_err-test_payload.ensures)

pub returns : goal.returns
returns c =
    all_passed _ _ _ c.read_fields-fields.ensures c.payload_of-payload.ensures c.in_ok-test_header.ensures c.in_ok-test_payload.ensures
