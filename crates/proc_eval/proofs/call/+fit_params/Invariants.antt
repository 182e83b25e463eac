use Rattle.std.proofs.Common.{length}
use Rattle.proc_eval.proofs.call.+fit_params.Given as goal

abbrev pub decreases-fit_params : goal.decreases-fit_params
decreases-fit_params l = length l.params.now
