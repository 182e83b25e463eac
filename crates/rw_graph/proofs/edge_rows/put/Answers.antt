use Rattle.std.proofs.Common.{arith}
use Rattle.std.proofs.lemmas.Grind.{elements}
use Rattle.rw_graph.proofs.edge_rows.put.Goals as goal

pub returns-clause-out : goal.returns-clause-out
returns-clause-out c = grind (arith, elements)

pub returns-clause-into : goal.returns-clause-into
returns-clause-into c = grind (arith, elements)
