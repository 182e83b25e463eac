use Rattle.std.proofs.Common.{arith}
use Rattle.std.proofs.lemmas.Grind.{common_steps}
use Rattle.proc_check.proofs.tables.check_all_listed.Goals as goal

pub returns-in_err-check_listed : goal.returns-in_err-check_listed
returns-in_err-check_listed c = grind (arith, common_steps)

pub loop-i-preserved : goal.loop-i-preserved
loop-i-preserved c = grind (arith, common_steps)

pub returns : goal.returns
returns c = grind (arith, common_steps)
