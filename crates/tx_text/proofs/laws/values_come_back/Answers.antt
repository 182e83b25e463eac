use Rattle.tx_text.proofs.Again.{value_of_again}
use Rattle.tx_text.proofs.laws.values_come_back.Goals as goal

pub returns : goal.returns
returns c = value_of_again
