use Rattle.proc_print.proofs.PrintedBack.{prints_come_back}
use Rattle.proc_print.proofs.laws.prints_come_back.Goals as goal

pub returns : goal.returns
returns c = prints_come_back
