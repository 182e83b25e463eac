use Rattle.std.proofs.Common.{arith}
use Rattle.std.proofs.lemmas.Grind.{elements}
use Rattle.version_index.proofs.span.add_above.Goals as goal

pub returns : goal.returns
returns c = grind (arith, elements)
