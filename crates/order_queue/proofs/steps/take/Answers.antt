use Rattle.order_queue.proofs.Moves.{takes, learns}
use Rattle.order_queue.proofs.steps.take.Goals as goal

pub pop_as-requires-clause-rule : goal.pop_as-requires-clause-rule
pop_as-requires-clause-rule g c = (takes _ _ c.requires.1, learns _ _ c.requires.1)
