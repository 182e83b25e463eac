use Rattle.proc_syntax.proofs.Runs.{few_reads}
use Rattle.proc_syntax.proofs.laws.few_reads.Goals as goal

pub returns : goal.returns
returns c = few_reads
