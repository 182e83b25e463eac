use Rattle.std.proofs.Common.{Err, IfOk, None, Ok, Result, rules, subst, sym, ◌≡◌}
use Rattle.bcdb.proofs.Clustered.{alone_app, alone_arrivals, replies_fold}
use Rattle.bcdb.proofs.running.answer_folded.Goals as goal
use Rattle.bcdb.specs.Accepted.{accepted}
use Rattle.bcdb.specs.Folds.{all_blocks}
use Rattle.bcdb.specs.Given.{AreFolded}
use Rattle.bcdb.specs.Traced.{RepliesRun}
use Rattle.bcdb.specs.declared.folding.Folded.{Folded}
use Rattle.bcdb.specs.declared.given.BadSource.TheVariants as bad
use Rattle.bcdb.specs.declared.given.BadSource.{BadSource}
use Rattle.bcdb.specs.declared.sources.Sources.{Sources}
use Rattle.edge_traits.specs.Shelf.{Files}

pub returns-in-Ok-clause-replies : goal.returns-in-Ok-clause-replies
returns-in-Ok-clause-replies c =
    let look = c.args.look.now in
    let read : c.args.read ≡ Ok c.in-Ok.folded = search rules in
    subst (λ (found : Result Folded BadSource). IfOk c.report_folded.result (λ reply. (asked : Sources) (files : Files) → asked.nodes ≡ 1 → asked.schedule ≡ None → AreFolded all_blocks found asked files → RepliesRun look asked (accepted (files asked.app)) files reply))
    (sym read) (replies_fold look c.in-Ok.folded c.report_folded.result c.report_folded.ensures.replies)

pub returns-in-Err-App-clause-replies : goal.returns-in-Err-App-clause-replies
returns-in-Err-App-clause-replies c =
    let look = c.args.look.now in
    let read : c.args.read ≡ Err (bad.App c.in-Err-App.refusal) = search rules in
    subst (λ (found : Result Folded BadSource). IfOk c.refuse_app.result (λ reply. (asked : Sources) (files : Files) → asked.nodes ≡ 1 → asked.schedule ≡ None → AreFolded all_blocks found asked files → RepliesRun look asked (accepted (files asked.app)) files reply))
    (sym read) (alone_app look c.in-Err-App.refusal c.refuse_app.result c.refuse_app.ensures.means)

pub returns-in-Err-Arrivals-clause-replies : goal.returns-in-Err-Arrivals-clause-replies
returns-in-Err-Arrivals-clause-replies c =
    let look = c.args.look.now in
    let read : c.args.read ≡ Err (bad.Arrivals c.in-Err-Arrivals.bad) = search rules in
    subst (λ (found : Result Folded BadSource). IfOk c.refuse_arrivals.result (λ reply. (asked : Sources) (files : Files) → asked.nodes ≡ 1 → asked.schedule ≡ None → AreFolded all_blocks found asked files → RepliesRun look asked (accepted (files asked.app)) files reply))
    (sym read) (alone_arrivals look c.in-Err-Arrivals.bad c.refuse_arrivals.result c.refuse_arrivals.ensures.means)
