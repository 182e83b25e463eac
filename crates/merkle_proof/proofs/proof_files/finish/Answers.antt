use Rattle.std.proofs.Common.{length, ap}
use Rattle.merkle_proof.specs.ProofFiles.{before}
use Rattle.merkle_proof.proofs.Filed.{ended_some}
use Rattle.merkle_proof.proofs.Member.{some_by}
use Rattle.merkle_proof.proofs.proof_files.finish.Goals as goal

pub returns-else-is_empty : goal.returns-else-is_empty
returns-else-is_empty c =
    ap (before c.args.steps) (ended_some c.args.number c.args.rest.now (some_by (length c.args.rest.now) c.is_empty.result c.is_empty.ensures c.if-is_empty.false))
