use Rattle.proc_syntax.proofs.Runs.{writes_are_read}
use Rattle.proc_syntax.proofs.laws.writes_are_read.Goals as goal

pub returns : goal.returns
returns c = writes_are_read
