use Rattle.std.proofs.Common.{arith}
use Rattle.std.proofs.lemmas.Grind.{common_steps}
use Rattle.report_text.proofs.json_block.put_txs.Goals as goal

pub loop-told-init : goal.loop-told-init
loop-told-init c = grind (arith, common_steps)

pub loop-told-preserved : goal.loop-told-preserved
loop-told-preserved c = grind (arith, common_steps)

pub returns : goal.returns
returns c = grind (arith, common_steps)
