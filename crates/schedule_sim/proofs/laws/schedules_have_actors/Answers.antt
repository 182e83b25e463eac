use Rattle.schedule_sim.proofs.Said.{schedule_fine}
use Rattle.schedule_sim.proofs.laws.schedules_have_actors.Goals as goal

pub returns : goal.returns
returns c = schedule_fine
