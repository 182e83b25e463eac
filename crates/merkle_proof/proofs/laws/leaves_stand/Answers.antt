use Rattle.merkle_proof.proofs.Sizes.{leaves_stand, shapes_count}
use Rattle.merkle_proof.proofs.laws.leaves_stand.Goals as goal

pub returns-clause-count : goal.returns-clause-count
returns-clause-count c = shapes_count

pub returns-clause-stand : goal.returns-clause-stand
returns-clause-stand c = leaves_stand
