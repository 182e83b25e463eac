use Rattle.std.proofs.Common.{arith}
use Rattle.std.proofs.lemmas.Grind.{common_steps}
use Rattle.version_index.proofs.lifespans.all_back.Goals as goal

pub loop-start-init : goal.loop-start-init
loop-start-init c = grind (arith, common_steps)
