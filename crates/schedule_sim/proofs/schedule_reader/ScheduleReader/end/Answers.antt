use Rattle.std.proofs.Common.{◌≡◌, Ok, rules}
use Rattle.schedule_sim.specs.Schedules.{schedule_of}
use Rattle.schedule_sim.proofs.Said.{schedule_fine}
use Rattle.schedule_sim.proofs.schedule_reader.ScheduleReader.end.Goals as goal

pub returns-then-is_empty-clause-actors : goal.returns-then-is_empty-clause-actors
returns-then-is_empty-clause-actors c = λ bytes fed.
    let whole : schedule_of bytes ≡ Ok c.args.self.steps = search (rules, fed) in
    schedule_fine bytes c.args.self.steps whole
