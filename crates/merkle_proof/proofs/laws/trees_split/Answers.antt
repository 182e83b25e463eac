use Rattle.sha2.specs.Sha256.{sha256}
use Rattle.merkle_proof.proofs.Heads.{one_is_leaf, trees_split}
use Rattle.merkle_proof.proofs.laws.trees_split.Goals as goal

pub returns-clause-one : goal.returns-clause-one
returns-clause-one c = one_is_leaf sha256

pub returns-clause-split : goal.returns-clause-split
returns-clause-split c = trees_split sha256
