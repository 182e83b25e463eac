use Rattle.std.proofs.Common.{map, sym, ◌∙◌}
use Rattle.rel_base.specs.Schema.{kind_at}
use Rattle.proc_syntax.proofs.Fits.{kinds_hold}
use Rattle.direct_run.proofs.writing.fitting.Goals as goal

pub returns-then-fits_key-clause-fits : goal.returns-then-fits_key-clause-fits
returns-then-fits_key-clause-fits c =
    let def = c.args.table.def.now in
    kinds_hold (map (kind_at def) def.key) c.args.key (sym c.fits_key.ensures ∙ c.if-fits_key.true)
