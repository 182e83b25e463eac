use Rattle.proc_syntax.proofs.Runs.{writes_find}
use Rattle.proc_syntax.proofs.laws.writes_find.Goals as goal

pub returns : goal.returns
returns c = writes_find
