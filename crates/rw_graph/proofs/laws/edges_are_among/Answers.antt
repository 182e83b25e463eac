use Rattle.rw_graph.proofs.Shown.{are_among}
use Rattle.rw_graph.proofs.laws.edges_are_among.Goals as goal

pub returns : goal.returns
returns c = are_among
