use Rattle.tx_text.proofs.Longest.{walked_bounded}
use Rattle.schedule_sim.specs.Schedules.{schedule_form}
use Rattle.schedule_sim.proofs.laws.schedules_are_bounded.Goals as goal

pub returns : goal.returns
returns c = walked_bounded schedule_form
