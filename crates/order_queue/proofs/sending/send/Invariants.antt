use Rattle.std.proofs.Common.{false}
use Rattle.order_queue.specs.Standing.{IsClientOf}
use Rattle.order_queue.proofs.sending.send.Given as goal

abbrev pub invariant-loop-index : goal.invariant-loop-index
invariant-loop-index g l = IsClientOf l.shared.queue l.pass l.client l.index false
