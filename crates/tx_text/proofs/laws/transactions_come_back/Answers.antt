use Rattle.tx_text.proofs.Again.{tx_again}
use Rattle.tx_text.proofs.laws.transactions_come_back.Goals as goal

pub returns : goal.returns
returns c = tx_again
