use Rattle.proc_syntax.proofs.Runs.{few_writes}
use Rattle.proc_syntax.proofs.laws.few_writes.Goals as goal

pub returns : goal.returns
returns c = few_writes
