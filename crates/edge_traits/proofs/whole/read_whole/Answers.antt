use Rattle.std.proofs.Common.{arith}
use Rattle.std.proofs.lemmas.Grind.{common_steps}
use Rattle.edge_traits.proofs.whole.read_whole.Goals as goal

pub returns-then-branch-eq0-clause-bytes : goal.returns-then-branch-eq0-clause-bytes
returns-then-branch-eq0-clause-bytes g c = grind (arith, common_steps)

pub loop-bytes-preserved : goal.loop-bytes-preserved
loop-bytes-preserved g c = grind (arith, common_steps)

pub returns-clause-too_long : goal.returns-clause-too_long
returns-clause-too_long g c = grind (arith, common_steps)
