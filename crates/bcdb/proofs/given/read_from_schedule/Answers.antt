use Rattle.std.proofs.Common.{IfSome, rules, ◌≡◌}
use Rattle.std.specs.Prelude.{Err}
use Rattle.bcdb.proofs.Giving.{schedule_bad}
use Rattle.bcdb.proofs.given.read_from_schedule.Goals as goal
use Rattle.bcdb.specs.Sources.{steps_in}

pub returns-in-Ok-Err-clause-told : goal.returns-in-Ok-Err-clause-told
returns-in-Ok-Err-clause-told g c =
    let told = g.S.Shelf.told c.args.shelf.now in
    let asked = c.args.asked.now in
    let is : IfSome told (λ files. steps_in asked.schedule files ≡ Err c.in-Ok-Err.line) = search rules in
    schedule_bad told asked _ _ c.in-Ok-Err.line is
