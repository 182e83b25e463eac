use Rattle.merkle_proof.proofs.Filed.{file_again, file_spelled}
use Rattle.merkle_proof.proofs.laws.proofs_have_one_file.Goals as goal

pub returns-clause-one : goal.returns-clause-one
returns-clause-one c = file_spelled

pub returns-clause-back : goal.returns-clause-back
returns-clause-back c = file_again
