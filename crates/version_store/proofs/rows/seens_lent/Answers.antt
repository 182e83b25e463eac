use Rattle.rel_base.specs.Access.{read_table}
use Rattle.rel_base.specs.Tables.{tables_at}
use Rattle.row_sets.proofs.Histories.{table_fits}
use Rattle.row_sets.specs.Log.{history_of}
use Rattle.version_store.proofs.Found.{in_order_are}
use Rattle.version_store.proofs.rows.seens_lent.Goals as goal

pub rows_by_key-requires-clause-fits : goal.rows_by_key-requires-clause-fits
rows_by_key-requires-clause-fits c = table_fits c.args.defs.now c.def_of.result.now (read_table c.args.read.now) (history_of c.args.log.now) c.def_of.ensures.declared c.requires.fits

-- the rows of the keys are those of the read
pub returns : goal.returns
returns c =
    in_order_are c.args.defs.now c.def_of.result.now c.args.read.now (tables_at c.args.height (history_of c.args.log.now)) c.in_ok-rows.rows.entries c.in_order.result c.def_of.ensures.declared c.in_ok-rows.ensures
    c.in_order.ensures.rows c.in_order.ensures.rise
