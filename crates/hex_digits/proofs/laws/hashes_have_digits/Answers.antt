use Rattle.hex_digits.proofs.Spelled.{hash_back, hash_fine, hash_spelled}
use Rattle.hex_digits.proofs.laws.hashes_have_digits.Goals as goal

pub returns-clause-back : goal.returns-clause-back
returns-clause-back c = hash_back

pub returns-clause-one : goal.returns-clause-one
returns-clause-one c = hash_spelled

pub returns-clause-hashes : goal.returns-clause-hashes
returns-clause-hashes c = hash_fine
