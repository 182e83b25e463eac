use Rattle.std.proofs.Common.{IfErr, IfOk, Ok, subst, sym, ◌≡◌}
use Rattle.bcdb.specs.Application.{IsRefused}
use Rattle.bcdb.proofs.Accepting.{checked_is}
use Rattle.bcdb.proofs.application.read_short.Goals as goal

pub returns-in-Ok-clause-ok : goal.returns-in-Ok-clause-ok
returns-in-Ok-clause-ok c =
    subst (λ found. IfOk c.check_parsed.result (λ checked. found ≡ Ok checked.app)) (sym (checked_is c.args.bytes.now c.in-Ok.app c.requires c.in-Ok.ensures.ok)) c.check_parsed.ensures.ok

pub returns-in-Ok-clause-refused : goal.returns-in-Ok-clause-refused
returns-in-Ok-clause-refused c =
    subst (λ found. IfErr c.check_parsed.result (λ fault. IsRefused fault found)) (sym (checked_is c.args.bytes.now c.in-Ok.app c.requires c.in-Ok.ensures.ok)) c.check_parsed.ensures.refused
