use Rattle.hex_digits.proofs.Spelled.{bytes_back, bytes_fine, bytes_spelled}
use Rattle.hex_digits.proofs.laws.bytes_have_digits.Goals as goal

pub returns-clause-back : goal.returns-clause-back
returns-clause-back c = bytes_back

pub returns-clause-one : goal.returns-clause-one
returns-clause-one c = bytes_spelled

pub returns-clause-bytes : goal.returns-clause-bytes
returns-clause-bytes c = bytes_fine
