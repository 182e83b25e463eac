use Rattle.rw_graph.proofs.Shown.{danger_shown}
use Rattle.rw_graph.proofs.laws.danger_by_position.Goals as goal

pub returns : goal.returns
returns c = danger_shown
