use Rattle.std.proofs.Common.{arith}
use Rattle.std.proofs.lemmas.Grind.{common_steps}
use Rattle.node_core.proofs.committing.abort_due.Goals as goal

pub returns-clause-consistent : goal.returns-clause-consistent
returns-clause-consistent c = grind (arith, common_steps)
