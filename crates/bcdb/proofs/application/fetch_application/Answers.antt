use Rattle.std.proofs.Common.{arith}
use Rattle.std.proofs.lemmas.Grind.{common_steps}
use Rattle.std.proofs.Common.{IfSome, rules, ◌≡◌}
use Rattle.bcdb.proofs.Turns.{given_told}
use Rattle.bcdb.proofs.application.fetch_application.Goals as goal
use Rattle.bcdb.specs.Accepted.{accepted}
use Rattle.bcdb.specs.Taking.{GivesApp}

pub returns-in_ok-read-in-Ok-clause-told : goal.returns-in_ok-read-in-Ok-clause-told
returns-in_ok-read-in-Ok-clause-told g c =
    let same : IfSome (g.S.Shelf.told c.args.shelf.now) (λ files. c.in-Ok.bytes ≡ files c.args.name.now) = search rules in
    let gives : GivesApp c.in_ok-read-in-Ok.read (accepted c.in-Ok.bytes) = search rules in
    given_told (g.S.Shelf.told c.args.shelf.now) c.args.name.now c.in-Ok.bytes c.in_ok-read-in-Ok.read same gives

pub returns-in-Err-TooLong-clause-told : goal.returns-in-Err-TooLong-clause-told
returns-in-Err-TooLong-clause-told g c = grind (arith, common_steps)
