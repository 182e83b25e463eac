use Rattle.tx_text.proofs.Written.{arrivals_spelled}
use Rattle.tx_text.proofs.laws.arrivals_have_one_text.Goals as goal

pub returns : goal.returns
returns c = arrivals_spelled
