use Rattle.std.proofs.Common.{rules}
use Rattle.block_work.proofs.Fitting.{store_fits}
use Rattle.plain_node.proofs.decide.run_at_time.Goals as goal
use Rattle.proc_syntax.specs.Declaring.{tables_of}
use Rattle.serial_laws.proofs.Fitting.{tables_fit}

pub run_directly-requires-clause-fit : goal.run_directly-requires-clause-fit
run_directly-requires-clause-fit g c =
    let history = g.V.Versions.history c.args.chain.now.versions in
    tables_fit (tables_of c.args.chain.now.app.value.app) c.args.tx.now.height history
    (store_fits c.args.chain.now.app.value.app (g.V.Versions.tables c.args.chain.now.versions) history c.args.chain.now.blocks c.requires.store)

pub returns : goal.returns
returns g c = search rules
