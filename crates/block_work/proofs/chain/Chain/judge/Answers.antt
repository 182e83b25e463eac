use Rattle.std.proofs.Common.{IfSome, None, ap, rules, subst, sym, ◌-◌, ◌∙◌, ◌≡◌}
use Rattle.std.specs.Option.{option_map}
use Rattle.block_work.proofs.Answering.{if_ok_then}
use Rattle.block_work.proofs.Causing.{danger_decides, shown_cause}
use Rattle.block_work.proofs.Fitting.{store_fits}
use Rattle.block_work.proofs.chain.Chain.judge.Goals as goal
use Rattle.block_work.specs.Causes.{IsCause, before_edges, outcome_of}
use Rattle.node_model.specs.Danger.{danger}
use Rattle.node_model.specs.declared.outcome.Outcome.TheVariants as outcome
use Rattle.node_model.specs.Decide.{by_run, or_committed}
use Rattle.proc_check.proofs.Bounds.{small_tables}
use Rattle.proc_syntax.specs.Declaring.{tables_of}
use Rattle.rel_base.specs.Tables.{writes_between}

pub returns-in-Some-clause-verdict : goal.returns-in-Some-clause-verdict
returns-in-Some-clause-verdict g c =
    let app = c.args.self.now.app.value in
    let history = g.V.Versions.history c.args.self.now.versions in
    let low = c.args.height in
    let high = c.args.work.now.number - 1 in
    let shown : c.in_ok-cause.field-0 ≡ before_edges (tables_of app.app) (writes_between low high history) c.args.work.now.committed.items c.args.ran.now =
    c.in_ok-cause.ensures ∙ ap (λ tables. before_edges tables (writes_between low high history) c.args.work.now.committed.items c.args.ran.now) c.requires.store.declared in
    subst (λ found. IfSome found IsCause) (sym shown ∙ c.in-Some.is)
    (shown_cause (tables_of app.app) (small_tables app.app app.well_typed) low high history c.args.work.now.committed.items c.args.ran.now
    (store_fits app.app (g.V.Versions.tables c.args.self.now.versions) history c.args.self.now.blocks c.requires.store) c.requires.fits.writes)

pub returns-in-None-clause-outcome : goal.returns-in-None-clause-outcome
returns-in-None-clause-outcome g c =
    let tables = tables_of c.args.self.now.app.value.app in
    let since = writes_between c.args.height (c.args.work.now.number - 1) (g.V.Versions.history c.args.self.now.versions) in
    let none : before_edges (g.V.Versions.tables c.args.self.now.versions) since c.args.work.now.committed.items c.args.ran.now ≡ None = search rules in
    if_ok_then c.judge_edges.result
    (λ verdict. outcome_of verdict
    ≡ or_committed (option_map outcome.Danger (danger c.app.result.now.exact c.tables.result.now c.args.work.now.committed.items c.args.ran.now.reads c.args.ran.now.writes)))
    (λ verdict. outcome_of verdict ≡ or_committed (by_run c.args.self.now.app.value.app.exact tables since c.args.work.now.committed.items c.args.ran.now)) c.judge_edges.ensures.outcome
    (λ verdict is. is
    ∙ ap (λ exact. or_committed (option_map outcome.Danger (danger exact c.tables.result.now c.args.work.now.committed.items c.args.ran.now.reads c.args.ran.now.writes)))
    (ap (λ app. app.exact) c.app.ensures.app ∙ ap (λ checked. checked.app.exact) c.deref.ensures)
    ∙ ap (λ defs. or_committed (option_map outcome.Danger (danger c.args.self.now.app.value.app.exact defs c.args.work.now.committed.items c.args.ran.now.reads c.args.ran.now.writes)))
    (c.tables.ensures.tables ∙ ap (λ checked. tables_of checked.app) c.deref-in-None.ensures)
    ∙ danger_decides c.args.self.now.app.value.app.exact tables since c.args.work.now.committed.items c.args.ran.now
    (subst (λ defs. before_edges defs since c.args.work.now.committed.items c.args.ran.now ≡ None) c.requires.store.declared none))
