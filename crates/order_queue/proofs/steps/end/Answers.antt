use Rattle.std.proofs.Common.{rules}
use Rattle.order_queue.proofs.Moves.{end_pushes}
use Rattle.order_queue.proofs.steps.end.Goals as goal

pub try_push_as-requires-clause-rule : goal.try_push_as-requires-clause-rule
try_push_as-requires-clause-rule c = end_pushes _ _ _ _ c.requires.next.0 c.requires.next.1 (search rules)
