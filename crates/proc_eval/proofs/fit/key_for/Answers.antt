use Rattle.std.proofs.Common.{sym, ◌∙◌}
use Rattle.proc_syntax.proofs.Fits.{kinds_hold}
use Rattle.proc_eval.proofs.fit.key_for.Goals as goal

pub key_of-requires : goal.key_of-requires
key_of-requires c = kinds_hold _ _ (sym c.fits_table.ensures ∙ c.if-fits_table.true)
