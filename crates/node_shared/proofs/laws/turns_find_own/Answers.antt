use Rattle.node_shared.proofs.Turns.{turns_find_own}
use Rattle.node_shared.proofs.laws.turns_find_own.Goals as goal

pub returns : goal.returns
returns c = turns_find_own
