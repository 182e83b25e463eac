use Rattle.schedule_laws.proofs.Cutting.{cut_reads_tell}
use Rattle.schedule_laws.proofs.laws.cut_reads_tell.Goals as goal

pub returns : goal.returns
returns c = cut_reads_tell
