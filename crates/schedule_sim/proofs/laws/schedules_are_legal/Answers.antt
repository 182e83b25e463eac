use Rattle.schedule_sim.proofs.Legal.{schedules_are_legal, schedules_deliver}
use Rattle.schedule_sim.proofs.laws.schedules_are_legal.Goals as goal

pub returns-clause-legal : goal.returns-clause-legal
returns-clause-legal c = schedules_are_legal

pub returns-clause-delivers : goal.returns-clause-delivers
returns-clause-delivers c = schedules_deliver
