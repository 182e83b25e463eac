use Rattle.std.proofs.Common.{refl}
use Rattle.load_gen.specs.Drawing.{step}
use Rattle.load_gen.specs.Transactions.{load_tx, state_before}
use Rattle.load_gen.proofs.laws.first_draws.Goals as goal

pub returns : goal.returns
unfolding step load_tx state_before
returns c = (refl, refl, refl, refl)
