use Rattle.order_queue.proofs.Moves.{merges}
use Rattle.order_queue.proofs.steps.readmit.Goals as goal

pub absorb-requires-clause-rule : goal.absorb-requires-clause-rule
absorb-requires-clause-rule c = merges _ _ _ _ c.requires.roles.0 c.requires.roles.1
