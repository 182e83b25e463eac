use Rattle.schedule_sim.proofs.Legal.{schedules_seal_the_fold}
use Rattle.schedule_sim.proofs.laws.schedules_seal_the_fold.Goals as goal

pub returns : goal.returns
returns c = schedules_seal_the_fold
