use Rattle.std.proofs.Common.{arith}
use Rattle.bcdb.proofs.folding.end_fold.Goals as goal

pub returns-clause-folds : goal.returns-clause-folds
returns-clause-folds c = λ blocks numbered holds. record { numbered = numbered; few = omega (arith, c.ranges.taken.fits); holds = holds }
