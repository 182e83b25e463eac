use Rattle.std.proofs.Common.{◌≡◌, ◌∷◌, ◌++◌, ◌∙◌, [], Err, Result, rules, subst, sym}
use Rattle.schedule_sim.specs.Reading.{GivesReader}
use Rattle.schedule_sim.specs.Schedules.{schedule_so_far}
use Rattle.schedule_sim.specs.declared.parse.ScheduleFault.{ScheduleFault}
use Rattle.schedule_sim.specs.declared.schedule_reader.ScheduleReader.{ScheduleReader}
use Rattle.tx_text.specs.Parts.{parts_of}
use Rattle.schedule_sim.proofs.Fed.{fed_on, last_part, next_line, stops}
use Rattle.schedule_sim.proofs.schedule_reader.ScheduleReader.feed.Goals as goal

pub returns-in_err-reader : goal.returns-in_err-reader
returns-in_err-reader c = λ bytes fed.
    let meant = schedule_so_far (bytes ++ c.args.piece.now) in
    let same : c.from_residual.result ≡ Err c.in_err-reader.field-0.0 = search rules in
    subst (λ (r : Result ScheduleReader ScheduleFault). GivesReader r meant) (sym same)
    (stops c.in_err-reader.field-0.0 c.loop-end.reader c.loop-end.rest.now c.in-Some.end.now c.in-Some.after.now meant (c.loop-end.invariant ∙ sym (fed_on c.args.self bytes c.args.piece.now fed))
    c.in-Some.ensures.parts c.in_err-reader.ensures)

pub loop-end-preserved : goal.loop-end-preserved
loop-end-preserved c =
    next_line c.loop-end.reader c.in_ok-reader.reader c.loop-end.rest.now c.in-Some.end.now c.in-Some.after.now c.in-Some.ensures.parts c.in_ok-reader.ensures ∙ c.loop-end.invariant

pub returns : goal.returns
returns c = λ bytes fed.
    let none : parts_of c.loop-end.rest.now ≡ c.loop-end.rest.now ∷ [] = search rules in
    subst (GivesReader c.hold.result) (last_part c.loop-end.reader c.loop-end.rest.now none ∙ c.loop-end.invariant ∙ sym (fed_on c.args.self bytes c.args.piece.now fed)) c.hold.ensures
