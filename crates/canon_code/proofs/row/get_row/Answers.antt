use Rattle.std.proofs.Common.{arith}
use Rattle.std.proofs.lemmas.Result.{err_from_is_err_and}
use Rattle.canon_code.specs.Rows.{row_code, HasRowCode, row_at}
use Rattle.canon_code.proofs.Exact.{rest_within, is_front, no_front}
use Rattle.canon_code.proofs.Things.{row_exact}
use Rattle.canon_code.proofs.row.get_row.Goals as goal

pub overflow_sub-result : goal.overflow_sub-result
overflow_sub-result c =
    rest_within row_code HasRowCode row_at row_exact c.args.bytes.now c.in_ok-row.row c.in_ok-row.rest.now (λ i. omega (arith, c.type_inv.bytes i)) c.in_ok-row.ensures

pub returns : goal.returns
returns c =
    is_front row_code HasRowCode row_at row_exact c.args.bytes.now c.in_ok-row.row c.in_ok-row.rest.now (λ i. omega (arith, c.type_inv.bytes i)) c.in_ok-row.ensures

pub returns-in_err-row : goal.returns-in_err-row
returns-in_err-row c =
    let p = err_from_is_err_and c.from_residual.result c.from_residual.ensures.1 in
    rw (p.1, p.2) (no_front row_code HasRowCode row_at row_exact c.args.bytes.now c.in_err-row.field-0.0 c.in_err-row.ensures)
