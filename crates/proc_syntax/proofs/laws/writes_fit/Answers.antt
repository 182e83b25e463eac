use Rattle.proc_syntax.proofs.Runs.{writes_fit}
use Rattle.proc_syntax.proofs.laws.writes_fit.Goals as goal

pub returns : goal.returns
returns c = writes_fit
