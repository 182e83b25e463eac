use Rattle.schedule_sim.proofs.Back.{schedule_back}
use Rattle.schedule_sim.proofs.laws.schedules_come_back.Goals as goal

pub returns : goal.returns
returns c = schedule_back
