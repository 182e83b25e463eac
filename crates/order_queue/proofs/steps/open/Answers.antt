use Rattle.order_queue.proofs.Moves.{begins}
use Rattle.order_queue.proofs.steps.open.Goals as goal

pub ruled-requires-clause-rule : goal.ruled-requires-clause-rule
ruled-requires-clause-rule c = begins
