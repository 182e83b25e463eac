use Rattle.schedule_laws.proofs.Folding.{schedules_fold}
use Rattle.schedule_laws.proofs.laws.schedules_fold.Goals as goal

pub returns : goal.returns
returns c = schedules_fold
