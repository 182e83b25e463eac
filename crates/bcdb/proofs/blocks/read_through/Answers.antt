use Rattle.std.proofs.Common.{arith}
use Rattle.std.proofs.lemmas.Grind.{common_steps}
use Rattle.bcdb.proofs.blocks.read_through.Goals as goal

pub loop-count-init : goal.loop-count-init
loop-count-init g c = grind (arith, common_steps)
