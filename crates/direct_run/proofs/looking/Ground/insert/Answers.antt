use Rattle.direct_run.proofs.Fitting.{key_fits_table}
use Rattle.direct_run.proofs.looking.Ground.insert.Goals as goal

pub put_new-requires-clause-fits : goal.put_new-requires-clause-fits
put_new-requires-clause-fits g c = key_fits_table c.in_ok-table.table.def.now c.in_ok-row.row c.in_ok-key.key c.in_ok-key.ensures
