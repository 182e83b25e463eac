use Rattle.std.proofs.Common.{◌≡◌, [], Err, Result, rules, subst, sym}
use Rattle.schedule_sim.specs.Reading.{Gives}
use Rattle.schedule_sim.specs.Schedules.{schedule_of}
use Rattle.schedule_sim.specs.declared.parse.ScheduleFault.{ScheduleFault}
use Rattle.schedule_sim.specs.declared.step.Schedule.{Schedule}
use Rattle.schedule_sim.proofs.Fed.{bad_text}
use Rattle.schedule_sim.proofs.schedule_reader.parse_schedule.Goals as goal

pub returns-in_err-reader-clause-steps : goal.returns-in_err-reader-clause-steps
returns-in_err-reader-clause-steps c =
    let same : c.from_residual.result ≡ Err c.in_err-reader.field-0.0 = search rules in
    subst (λ (r : Result Schedule ScheduleFault). Gives r (schedule_of c.args.text.now)) (sym same)
    (bad_text c.in_err-reader.field-0.0 c.args.text.now (c.in_err-reader.ensures [] c.new.ensures))

pub returns-in-Ok-clause-steps : goal.returns-in-Ok-clause-steps
returns-in-Ok-clause-steps c = c.in-Ok.ensures.steps c.args.text.now (c.in_ok-reader.ensures [] c.new.ensures)

pub returns-in-Ok-clause-actors : goal.returns-in-Ok-clause-actors
returns-in-Ok-clause-actors c = c.in-Ok.ensures.actors c.args.text.now (c.in_ok-reader.ensures [] c.new.ensures)

pub returns-in-Err-clause-steps : goal.returns-in-Err-clause-steps
returns-in-Err-clause-steps c = c.in-Err.ensures.steps c.args.text.now (c.in_ok-reader.ensures [] c.new.ensures)
