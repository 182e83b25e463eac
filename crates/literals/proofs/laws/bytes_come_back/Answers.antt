use Rattle.literals.proofs.Again.{bytes_again}
use Rattle.literals.proofs.laws.bytes_come_back.Goals as goal

pub returns : goal.returns
returns c = bytes_again
