use Rattle.provenance.proofs.Folded.{folds_told}
use Rattle.provenance.proofs.laws.folds_are_told.Goals as goal

pub returns : goal.returns
returns c = folds_told
