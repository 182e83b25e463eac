use Rattle.proc_syntax.proofs.Runs.{reads_fit}
use Rattle.proc_syntax.proofs.laws.reads_fit.Goals as goal

pub returns : goal.returns
returns c = reads_fit
