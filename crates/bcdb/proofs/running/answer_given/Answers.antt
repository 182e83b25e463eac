use Rattle.std.proofs.Common.{Err, IfOk, Result, rules, subst, sym, ◌≡◌}
use Rattle.bcdb.proofs.Clustered.{replies_app, replies_arrivals}
use Rattle.bcdb.proofs.running.answer_given.Goals as goal
use Rattle.bcdb.specs.Accepted.{accepted}
use Rattle.bcdb.specs.Given.{AreGiven}
use Rattle.bcdb.specs.Traced.{RepliesRun}
use Rattle.bcdb.specs.declared.given.BadSource.TheVariants as bad
use Rattle.bcdb.specs.declared.given.BadSource.{BadSource}
use Rattle.bcdb.specs.declared.given.Given.{Given}
use Rattle.edge_traits.specs.Shelf.{Files}

pub returns-in-Err-App-clause-replies : goal.returns-in-Err-App-clause-replies
returns-in-Err-App-clause-replies g c =
    let look = c.args.look.now in
    let asked = c.args.asked.now in
    let read : c.args.read ≡ Err (bad.App c.in-Err-App.refusal) = search rules in
    subst (λ (found : Result Given BadSource). IfOk c.refuse_app.result (λ reply. (files : Files) → AreGiven found asked files → RepliesRun look asked (accepted (files asked.app)) files reply))
    (sym read) (replies_app look asked c.in-Err-App.refusal c.refuse_app.result c.refuse_app.ensures.means)

pub returns-in-Err-Arrivals-clause-replies : goal.returns-in-Err-Arrivals-clause-replies
returns-in-Err-Arrivals-clause-replies g c =
    let look = c.args.look.now in
    let asked = c.args.asked.now in
    let read : c.args.read ≡ Err (bad.Arrivals c.in-Err-Arrivals.bad) = search rules in
    subst (λ (found : Result Given BadSource). IfOk c.refuse_arrivals.result (λ reply. (files : Files) → AreGiven found asked files → RepliesRun look asked (accepted (files asked.app)) files reply))
    (sym read) (replies_arrivals look asked c.in-Err-Arrivals.bad c.refuse_arrivals.result c.refuse_arrivals.ensures.means)
