use Rattle.tx_text.proofs.Written.{arrivals_again}
use Rattle.tx_text.proofs.laws.arrivals_come_back.Goals as goal

pub returns : goal.returns
returns c = arrivals_again
