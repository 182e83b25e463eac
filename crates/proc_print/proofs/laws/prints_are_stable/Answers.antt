use Rattle.proc_print.proofs.Stable.{prints_are_stable}
use Rattle.proc_print.proofs.laws.prints_are_stable.Goals as goal

pub returns : goal.returns
returns c = prints_are_stable
