use Rattle.tx_text.proofs.Takes.{value_of_spelled}
use Rattle.tx_text.proofs.laws.values_have_one_spelling.Goals as goal

pub returns : goal.returns
returns c = value_of_spelled
