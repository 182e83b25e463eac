use Rattle.literals.proofs.Again.{number_again}
use Rattle.literals.proofs.laws.numbers_come_back.Goals as goal

pub returns : goal.returns
returns c = number_again
