use Rattle.std.proofs.Common.{arith}
use Rattle.std.proofs.lemmas.Grind.{common_steps}
use Rattle.node_core.proofs.delivering.fresh_txs.Goals as goal

pub bounds-shared-i : goal.bounds-shared-i
bounds-shared-i c = grind (arith, common_steps)

pub loop-i-preserved : goal.loop-i-preserved
loop-i-preserved c = grind (arith, common_steps)

pub returns-clause-fresh : goal.returns-clause-fresh
returns-clause-fresh c = grind (arith, common_steps)

pub returns-clause-ids : goal.returns-clause-ids
returns-clause-ids c = grind (arith, common_steps)
