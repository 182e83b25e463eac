use Rattle.proc_print.proofs.PrintedBack.{prints_are_read}
use Rattle.proc_print.proofs.laws.prints_are_read.Goals as goal

pub returns : goal.returns
returns c = prints_are_read
