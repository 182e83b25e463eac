use Rattle.sha2.specs.Sha256.{sha256}
use Rattle.sha2.proofs.Facts256.{length-sha256}
use Rattle.merkle_proof.proofs.Heads.{proofs_have_members}
use Rattle.merkle_proof.proofs.laws.proofs_have_members.Goals as goal

pub returns : goal.returns
returns c = proofs_have_members sha256 length-sha256
