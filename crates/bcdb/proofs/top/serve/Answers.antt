use Rattle.std.proofs.Common.{List, Some, refl, rules, subst, ◌≡◌, ℕ}
use Rattle.bcdb.proofs.Ends.{told_short, told_traced}
use Rattle.bcdb.proofs.top.serve.Goals as goal
use Rattle.bcdb.specs.Answer.{Writes}
use Rattle.bcdb.specs.ProgramAnswer.{says}

pub returns-in-Ok-clause-ends : goal.returns-in-Ok-clause-ends
returns-in-Ok-clause-ends g c =
    let before = g.W.Sink.written c.args.out.now in
    let now = g.W.Sink.written c.deliver-status.new.out in
    let writes : Writes (says c.in-Ok.reply.status c.in-Ok.reply.bytes) c.deliver-status.result before now =
    subst (λ (bytes : List ℕ). Writes (says c.in-Ok.reply.status bytes) c.deliver-status.result before now) c.as_slice.ensures c.deliver-status.ensures.writes in
    told_traced (Some c.args.settings) (g.S.Shelf.told c.args.shelf.now) c.in-Ok.reply c.deliver-status.result before now _ _ c.in-Ok.ensures.told writes c.in-Ok.ensures.counted

pub returns-in-Err-NoMemory-clause-ends : goal.returns-in-Err-NoMemory-clause-ends
returns-in-Err-NoMemory-clause-ends g c =
    let before = g.W.Sink.written c.args.out.now in
    let kept : g.S.Shelf.faults c.reply_to.new.shelf ≡ g.S.Shelf.faults c.args.shelf.now = search rules in
    told_short (Some c.args.settings) (g.S.Shelf.told c.args.shelf.now) before before _ _ refl kept
