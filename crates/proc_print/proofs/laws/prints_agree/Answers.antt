use Rattle.proc_print.proofs.PrintedBack.{prints_agree}
use Rattle.proc_print.proofs.laws.prints_agree.Goals as goal

pub returns : goal.returns
returns c = prints_agree
