use Rattle.std.proofs.Common.{rules, subst, sym, ◌≡◌}
use Rattle.block_work.proofs.Fitting.{runs_fit, store_fits}
use Rattle.block_work.specs.Causes.{RunFits}
use Rattle.plain_node.proofs.Deciding.{run_is}
use Rattle.plain_node.proofs.decide.run_tx.Goals as goal
use Rattle.proc_syntax.specs.Declaring.{tables_of}
use Rattle.proc_syntax.specs.Run.{run}
use Rattle.rel_base.specs.Tables.{tables_at}

pub returns-clause-run : goal.returns-clause-run
returns-clause-run g c = λ sealed holds.
    let app = c.args.chain.now.app.value.app in
    let tables = tables_at c.args.tx.now.height (g.V.Versions.history c.args.chain.now.versions) in
    let ran : c.in_ok-ran.ran ≡ run app c.args.tx.now c.time_of-time.result tables = search rules in
    run_is app sealed (g.V.Versions.history c.args.chain.now.versions) c.args.tx.now c.time_of-time.result c.in_ok-ran.ran holds.writes (c.time_of-time.ensures sealed holds) ran

pub returns-clause-fits : goal.returns-clause-fits
returns-clause-fits g c =
    let app = c.args.chain.now.app.value.app in
    let history = g.V.Versions.history c.args.chain.now.versions in
    let ran : c.in_ok-ran.ran ≡ run app c.args.tx.now c.time_of-time.result (tables_at c.args.tx.now.height history) = search rules in
    subst (RunFits (tables_of app)) (sym ran)
    (runs_fit app c.args.tx.now c.time_of-time.result c.args.tx.now.height history (store_fits app (g.V.Versions.tables c.args.chain.now.versions) history c.args.chain.now.blocks c.requires.store))
