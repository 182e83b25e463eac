use Rattle.order_queue.proofs.Moves.{forks}
use Rattle.order_queue.proofs.steps.admit.Goals as goal

pub another-requires-clause-rule : goal.another-requires-clause-rule
another-requires-clause-rule c = forks _ _ c.requires.1
