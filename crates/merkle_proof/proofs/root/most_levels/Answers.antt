use Rattle.std.proofs.Common.{refl}
use Rattle.merkle_proof.specs.Shape.{levels}
use Rattle.merkle_proof.proofs.root.most_levels.Goals as goal

pub returns-clause-same : goal.returns-clause-same
unfolding levels
returns-clause-same c = refl
