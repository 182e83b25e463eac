use Rattle.std.proofs.Common.{length}
use Rattle.proc_eval.proofs.fit.+fit_numbers.Given as goal

abbrev pub decreases-fit_numbers : goal.decreases-fit_numbers
decreases-fit_numbers l = length l.numbers.now
