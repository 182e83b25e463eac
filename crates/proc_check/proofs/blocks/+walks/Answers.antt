use Rattle.std.proofs.Common.{arith}
use Rattle.std.proofs.lemmas.Grind.{common_steps}
use Rattle.proc_check.proofs.blocks.+walks.Goals as goal

pub check_held-returns-clause-same : goal.check_held-returns-clause-same
check_held-returns-clause-same t c = grind (arith, common_steps)

pub check_stmts-loop-stmt-init : goal.check_stmts-loop-stmt-init
check_stmts-loop-stmt-init t c = grind (arith, common_steps)

pub check_stmts-returns-clause-gives : goal.check_stmts-returns-clause-gives
check_stmts-returns-clause-gives t c = grind (arith, common_steps)
