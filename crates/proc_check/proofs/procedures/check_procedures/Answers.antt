use Rattle.std.proofs.Common.{arith}
use Rattle.std.proofs.lemmas.Grind.{common_steps}
use Rattle.proc_check.proofs.procedures.check_procedures.Goals as goal

pub returns-in_err-check_procedure : goal.returns-in_err-check_procedure
returns-in_err-check_procedure c = grind (arith, common_steps)

pub loop-i-preserved : goal.loop-i-preserved
loop-i-preserved c = grind (arith, common_steps)

pub returns : goal.returns
returns c = grind (arith, common_steps)
