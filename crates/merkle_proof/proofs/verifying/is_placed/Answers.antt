use Rattle.std.proofs.Common.{arith}
use Rattle.merkle_proof.proofs.Verified.{placed}
use Rattle.merkle_proof.proofs.verifying.is_placed.Goals as goal

pub returns : goal.returns
returns c =
    placed c.args.proof.now.count c.args.proof.now.index c.most_levels.result c.len.result c.way_len.result c.args.proof.now.path
    (omega (arith, c.if-proof-eq0.false)) (omega (arith, c.if-proof.false)) c.most_levels.ensures.same c.len.ensures c.way_len.ensures.way
