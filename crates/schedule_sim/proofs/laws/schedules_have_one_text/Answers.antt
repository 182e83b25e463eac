use Rattle.schedule_sim.proofs.Said.{schedule_spelled}
use Rattle.schedule_sim.proofs.laws.schedules_have_one_text.Goals as goal

pub returns : goal.returns
returns c = schedule_spelled
