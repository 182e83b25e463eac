use Rattle.literals.proofs.Again.{text_again}
use Rattle.literals.proofs.laws.texts_come_back.Goals as goal

pub returns : goal.returns
returns c = text_again
