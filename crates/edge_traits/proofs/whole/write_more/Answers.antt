use Rattle.std.proofs.Common.{rules}
use Rattle.edge_traits.proofs.whole.write_more.Goals as goal

pub returns-clause-quiet : goal.returns-clause-quiet
returns-clause-quiet g c = search rules
