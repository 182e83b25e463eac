use Rattle.std.proofs.Common.{arith}
use Rattle.std.proofs.lemmas.Grind.{common_steps}
use Rattle.block_digest.proofs.items.read_items.Goals as goal

pub returns-in_err-item : goal.returns-in_err-item
returns-in_err-item g c = grind (arith, common_steps)

pub returns : goal.returns
returns g c = grind (arith, common_steps)
