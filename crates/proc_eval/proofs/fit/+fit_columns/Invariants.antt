use Rattle.std.proofs.Common.{length}
use Rattle.proc_eval.proofs.fit.+fit_columns.Given as goal

abbrev pub decreases-fit_columns : goal.decreases-fit_columns
decreases-fit_columns l = length l.columns.now
