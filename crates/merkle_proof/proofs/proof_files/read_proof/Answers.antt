use Rattle.merkle_proof.proofs.Member.{few_row}
use Rattle.merkle_proof.proofs.proof_files.read_proof.Goals as goal

pub returns-clause-code : goal.returns-clause-code
returns-clause-code c = c.in_ok-write.ensures.code

pub returns-clause-few : goal.returns-clause-few
returns-clause-few c = few_row c.in_ok-write.write c.in_ok-write.ensures.code
