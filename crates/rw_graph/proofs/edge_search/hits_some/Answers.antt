use Rattle.std.proofs.Common.{arith}
use Rattle.std.proofs.lemmas.Grind.{common_steps}
use Rattle.rw_graph.proofs.edge_search.hits_some.Goals as goal

pub returns-then-hits : goal.returns-then-hits
returns-then-hits c = grind (arith, common_steps)

pub loop-write-preserved : goal.loop-write-preserved
loop-write-preserved c = grind (arith, common_steps)

pub returns : goal.returns
returns c = grind (arith, common_steps)
