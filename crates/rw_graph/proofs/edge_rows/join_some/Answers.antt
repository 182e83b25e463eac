use Rattle.std.proofs.Common.{arith}
use Rattle.std.proofs.lemmas.Grind.{common_steps}
use Rattle.rw_graph.proofs.edge_rows.join_some.Goals as goal

pub returns-clause-out : goal.returns-clause-out
returns-clause-out c = grind (arith, common_steps)

pub returns-clause-into : goal.returns-clause-into
returns-clause-into c = grind (arith, common_steps)
