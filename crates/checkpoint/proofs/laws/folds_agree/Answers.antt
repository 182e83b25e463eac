use Rattle.checkpoint.proofs.Folding.{folds_agree}
use Rattle.checkpoint.proofs.laws.folds_agree.Goals as goal

pub returns : goal.returns
returns c = folds_agree
