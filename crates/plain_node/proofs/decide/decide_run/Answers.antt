use Rattle.std.proofs.Common.{rules, subst, ◌-◌, ◌≡◌}
use Rattle.block_work.specs.Block.{work_of}
use Rattle.block_work.specs.Causes.{IsVerdictOn}
use Rattle.node_model.specs.Decide.{by_run, or_committed}
use Rattle.plain_node.proofs.Deciding.{abort_judged, commit_judged}
use Rattle.plain_node.proofs.decide.decide_run.Goals as goal
use Rattle.proc_syntax.specs.Declaring.{tables_of}
use Rattle.rel_base.specs.Tables.{writes_between}

pub returns-in-Aborts-clause-work : goal.returns-in-Aborts-clause-work
returns-in-Aborts-clause-work g c = λ sealed holds.
    let app = c.args.chain.now.app.value.app in
    let history = g.V.Versions.history c.args.chain.now.versions in
    let found : c.in-Aborts.cause ≡ or_committed (by_run c.args.chain.now.app.value.app.exact (tables_of c.args.chain.now.app.value.app)
    (writes_between c.args.tx.now.height (c.args.work.now.number - 1) (g.V.Versions.history c.args.chain.now.versions)) c.args.work.now.committed.items c.in_ok-ran.ran) = search rules in
    abort_judged app sealed history c.args.work.now.number (work_of c.args.work.now) c.args.tx.now c.in_ok-ran.ran (c.in_ok-ran.ensures.run sealed holds) holds.writes c.in-Aborts.cause
    (subst (IsVerdictOn (tables_of app) c.args.work.now.committed.items c.in_ok-ran.ran) c.in-Aborts.is c.in_ok-cause.ensures.verdict) found

pub returns-in-Commits-clause-work : goal.returns-in-Commits-clause-work
returns-in-Commits-clause-work g c = λ sealed holds.
    let app = c.args.chain.now.app.value.app in
    let history = g.V.Versions.history c.args.chain.now.versions in
    commit_judged app sealed history c.args.work.now.number (work_of c.args.work.now) c.args.tx.now c.in_ok-ran.ran (c.in_ok-ran.ensures.run sealed holds) holds.writes _ (search rules)
