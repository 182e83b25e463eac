use Rattle.load_gen.proofs.Stepping.{heights_lie_before}
use Rattle.load_gen.proofs.laws.heights_lie_before.Goals as goal

pub returns : goal.returns
returns c = heights_lie_before
