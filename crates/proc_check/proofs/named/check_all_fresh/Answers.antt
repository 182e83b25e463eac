use Rattle.std.proofs.Common.{arith}
use Rattle.std.proofs.lemmas.Grind.{common_steps}
use Rattle.proc_check.proofs.named.check_all_fresh.Goals as goal

pub returns-in_err-check_fresh : goal.returns-in_err-check_fresh
returns-in_err-check_fresh g c = grind (arith, common_steps)

pub loop-i-preserved : goal.loop-i-preserved
loop-i-preserved g c = grind (arith, common_steps)

pub returns : goal.returns
returns g c = grind (arith, common_steps)
