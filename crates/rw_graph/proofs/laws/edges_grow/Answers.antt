use Rattle.rw_graph.proofs.Shown.{grown}
use Rattle.rw_graph.proofs.laws.edges_grow.Goals as goal

pub returns : goal.returns
returns c = grown
