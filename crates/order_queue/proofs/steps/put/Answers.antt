use Rattle.std.proofs.Common.{rules}
use Rattle.order_queue.proofs.Moves.{put_pushes}
use Rattle.order_queue.proofs.steps.put.Goals as goal

pub try_push_as-requires-clause-rule : goal.try_push_as-requires-clause-rule
try_push_as-requires-clause-rule c = put_pushes _ _ _ _ c.requires.next.0 c.requires.next.1 (search rules)
