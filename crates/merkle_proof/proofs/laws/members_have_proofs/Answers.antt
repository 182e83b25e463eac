use Rattle.sha2.specs.Sha256.{sha256}
use Rattle.merkle_proof.proofs.Heads.{members_have_proofs, paths_are_short}
use Rattle.merkle_proof.proofs.Paths.{paths_lead}
use Rattle.merkle_proof.proofs.laws.members_have_proofs.Goals as goal

pub returns-clause-lead : goal.returns-clause-lead
returns-clause-lead c = paths_lead sha256

pub returns-clause-short : goal.returns-clause-short
returns-clause-short c = paths_are_short

pub returns-clause-proofs : goal.returns-clause-proofs
returns-clause-proofs c = members_have_proofs sha256
