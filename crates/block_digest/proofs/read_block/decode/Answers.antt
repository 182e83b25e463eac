use Rattle.std.proofs.Common.{arith, sym, ◌∙◌}
use Rattle.std.proofs.lemmas.Result.{err_from_is_err_and}
use Rattle.node_model.specs.BlockCode.{block_code}
use Rattle.block_digest.specs.Grammar.{HasBlockCode}
use Rattle.block_digest.specs.Readings.{block_at}
use Rattle.block_digest.proofs.Blocks.{block_exact}
use Rattle.block_digest.proofs.Written.{can_be_written}
use Rattle.block_digest.proofs.Whole.{whole_found, whole_left, whole_none}
use Rattle.block_digest.proofs.read_block.decode.Goals as goal

pub returns-in_err-block-clause-decoded : goal.returns-in_err-block-clause-decoded
returns-in_err-block-clause-decoded c =
    let p = err_from_is_err_and c.from_residual.result c.from_residual.ensures.1 in
    rw (p.1, p.2) (whole_none block_code HasBlockCode block_at block_exact c.args.bytes.now c.in_err-block.field-0.0 c.in_err-block.ensures)

pub returns-then-not-is_empty-clause-decoded : goal.returns-then-not-is_empty-clause-decoded
returns-then-not-is_empty-clause-decoded c =
    whole_left block_code HasBlockCode block_at block_exact c.args.bytes.now c.in_ok-block.block c.in_ok-block.rest.now c.in_ok-block.ensures (sym c.is_empty.ensures ∙ c.if-not-is_empty.true)

pub returns-clause-decoded : goal.returns-clause-decoded
returns-clause-decoded c =
    whole_found block_code HasBlockCode block_at block_exact c.args.bytes.now c.in_ok-block.block c.in_ok-block.rest.now (λ i. omega (arith, c.type_inv.bytes i)) c.in_ok-block.ensures (sym c.is_empty.ensures ∙ c.if-not-is_empty.false)

pub returns-clause-codable : goal.returns-clause-codable
returns-clause-codable c = can_be_written c.in_ok-block.block (returns-clause-decoded c).0
