use Rattle.std.proofs.Common.{Some, rules, ap, sym, ◌-◌, ◌∙◌, ◌≡◌}
use Rattle.block_work.proofs.Answering.{if_ok_then}
use Rattle.block_work.specs.Causes.{outcome_of}
use Rattle.node_core.proofs.Readied.{judged_as}
use Rattle.node_core.specs.Deciding.{IsDone, outcome_by}
use Rattle.node_core.specs.Rows.{row_at}
use Rattle.node_core.specs.declared.jobs.Stage.TheVariants as stage
use Rattle.node_model.specs.Decide.{by_run, or_committed}
use Rattle.proc_syntax.specs.Declaring.{tables_of}
use Rattle.proc_syntax.specs.declared.call.Tx.{Tx}
use Rattle.rel_base.specs.Tables.{writes_between}
use Rattle.node_core.proofs.committing.judge_job.Goals as goal

pub returns-clause-outcome : goal.returns-clause-outcome
returns-clause-outcome g c =
    let exact = c.args.chain.now.app.value.app.exact in
    let tables = tables_of c.args.chain.now.app.value.app in
    let history = g.V.Versions.history c.args.chain.now.versions in
    let row = c.in-Some-Done.field-0.now in
    let there : row_at c.args.jobs.now c.args.number ≡ Some row = search rules in
    let kept : row.stage ≡ stage.Done c.in-Some-Done.recorded = search rules in
    let recorded = c.get-in-Some-Done.result.now in
    let stands : row.stage ≡ stage.Done recorded = kept ∙ ap stage.Done (sym c.get-in-Some-Done.ensures) in
    if_ok_then c.judge.result
    (λ verdict. outcome_of verdict ≡ or_committed (by_run exact tables (writes_between c.deref.result.now.height (c.args.work.now.number - 1) history) c.args.work.now.committed.items recorded.ran))
    (λ verdict. (done : IsDone tables c.args.jobs.now c.args.number) → outcome_of verdict ≡ outcome_by exact tables history c.args.work.now c.args.jobs.now done) c.judge.ensures.outcome
    (λ verdict is done. is ∙ judged_as tables c.args.jobs.now c.args.number done exact history c.args.work.now row recorded c.deref.result.now.height there stands (ap (λ (tx : Tx). tx.height) c.deref.ensures))
