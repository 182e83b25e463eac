use Rattle.proc_syntax.proofs.Runs.{reads_are_rows}
use Rattle.proc_syntax.proofs.laws.reads_are_rows.Goals as goal

pub returns : goal.returns
returns c = reads_are_rows
