use Rattle.tx_text.specs.Arrivals.{arrivals_form}
use Rattle.tx_text.proofs.Longest.{walked_bounded}
use Rattle.tx_text.proofs.laws.arrivals_are_bounded.Goals as goal

pub returns : goal.returns
returns c = walked_bounded arrivals_form
