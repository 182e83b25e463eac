use Rattle.tx_text.proofs.Takes.{tx_spelled}
use Rattle.tx_text.proofs.laws.transactions_have_one_line.Goals as goal

pub returns : goal.returns
returns c = tx_spelled
