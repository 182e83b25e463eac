use Rattle.std.proofs.Common.{arith}
use Rattle.std.proofs.lemmas.Result.{err_from_is_err_and}
use Rattle.canon_code.specs.Writes.{write_code, HasWriteCode, write_at}
use Rattle.canon_code.proofs.Exact.{rest_within, is_front, no_front}
use Rattle.canon_code.proofs.Things.{write_exact}
use Rattle.canon_code.proofs.write.get_write.Goals as goal

pub overflow_sub-result : goal.overflow_sub-result
overflow_sub-result c =
    rest_within write_code HasWriteCode write_at write_exact c.args.bytes.now c.in_ok-placed.placed c.in_ok-placed.rest.now (λ i. omega (arith, c.type_inv.bytes i)) c.in_ok-placed.ensures

pub returns : goal.returns
returns c =
    is_front write_code HasWriteCode write_at write_exact c.args.bytes.now c.in_ok-placed.placed c.in_ok-placed.rest.now (λ i. omega (arith, c.type_inv.bytes i)) c.in_ok-placed.ensures

pub returns-in_err-placed : goal.returns-in_err-placed
returns-in_err-placed c =
    let p = err_from_is_err_and c.from_residual.result c.from_residual.ensures.1 in
    rw (p.1, p.2) (no_front write_code HasWriteCode write_at write_exact c.args.bytes.now c.in_err-placed.field-0.0 c.in_err-placed.ensures)
