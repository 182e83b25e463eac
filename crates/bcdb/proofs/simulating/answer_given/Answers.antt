use Rattle.std.proofs.Common.{Err, IfOk, Result, rules, subst, sym, ◌≡◌}
use Rattle.bcdb.proofs.Simulated.{arrivals_mean, schedule_means}
use Rattle.bcdb.proofs.simulating.answer_given.Goals as goal
use Rattle.bcdb.specs.Accepted.{accepted}
use Rattle.bcdb.specs.Given.{AreGiven}
use Rattle.bcdb.specs.Reply.{Means}
use Rattle.bcdb.specs.SimulationAnswer.{over_simulation}
use Rattle.bcdb.specs.declared.given.BadSource.TheVariants as bad
use Rattle.bcdb.specs.declared.given.BadSource.{BadSource}
use Rattle.bcdb.specs.declared.given.Given.{Given}
use Rattle.bcdb.specs.declared.sources.Sources.{Sources}
use Rattle.edge_traits.specs.Shelf.{Files}

pub returns-in-Err-Arrivals-clause-means : goal.returns-in-Err-Arrivals-clause-means
returns-in-Err-Arrivals-clause-means c =
    let read : c.args.read ≡ Err (bad.Arrivals c.in-Err-Arrivals.bad) = search rules in
    subst (λ (found : Result Given BadSource). IfOk c.refuse_arrivals.result (λ reply. (asked : Sources) (files : Files) → asked.nodes ≡ 1 → AreGiven found asked files
    → Means (over_simulation c.args.look.now asked (accepted (files asked.app)) files) reply)) (sym read)
    (arrivals_mean c.args.look.now c.in-Err-Arrivals.bad c.refuse_arrivals.result c.refuse_arrivals.ensures.means)

pub returns-in-Err-Schedule-clause-means : goal.returns-in-Err-Schedule-clause-means
returns-in-Err-Schedule-clause-means c =
    let read : c.args.read ≡ Err (bad.Schedule c.in-Err-Schedule.line) = search rules in
    subst (λ (found : Result Given BadSource). IfOk c.refuse_schedule.result (λ reply. (asked : Sources) (files : Files) → asked.nodes ≡ 1 → AreGiven found asked files
    → Means (over_simulation c.args.look.now asked (accepted (files asked.app)) files) reply)) (sym read)
    (schedule_means c.args.look.now c.in-Err-Schedule.line c.refuse_schedule.result c.refuse_schedule.ensures.means)
