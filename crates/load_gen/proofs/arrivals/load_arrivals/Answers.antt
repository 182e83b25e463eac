use Rattle.std.proofs.Common.{rules}
use Rattle.load_gen.proofs.arrivals.load_arrivals.Goals as goal

pub returns : goal.returns
returns c = search rules
