use Rattle.provenance.proofs.Folded.{histories_told}
use Rattle.provenance.proofs.laws.histories_are_told.Goals as goal

pub returns : goal.returns
returns c = histories_told
