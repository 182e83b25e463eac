use Rattle.std.proofs.Common.{arith}
use Rattle.std.proofs.lemmas.Grind.{common_steps}
use Rattle.node_core.proofs.job_rows.push_row.Goals as goal

pub returns-clause-index : goal.returns-clause-index
returns-clause-index c = grind (arith, common_steps)
