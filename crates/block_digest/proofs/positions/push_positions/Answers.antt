use Rattle.std.proofs.Common.{arith}
use Rattle.std.proofs.lemmas.Grind.{common_steps}
use Rattle.block_digest.proofs.positions.push_positions.Goals as goal

pub loop-pos-preserved : goal.loop-pos-preserved
loop-pos-preserved c = grind (arith, common_steps)

pub returns : goal.returns
returns c = grind (arith, common_steps)
