use Rattle.tx_text.proofs.Listed.{fault_lasts}
use Rattle.schedule_sim.specs.Schedules.{schedule_form}
use Rattle.schedule_sim.proofs.laws.bad_lines_last.Goals as goal

pub returns : goal.returns
returns c = fault_lasts schedule_form
