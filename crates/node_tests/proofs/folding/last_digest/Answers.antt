use Rattle.std.proofs.Common.{arith}
use Rattle.std.proofs.lemmas.Grind.{common_steps}
use Rattle.node_tests.proofs.folding.last_digest.Goals as goal

pub process-requires-clause-next : goal.process-requires-clause-next
process-requires-clause-next c = grind (arith, common_steps)
