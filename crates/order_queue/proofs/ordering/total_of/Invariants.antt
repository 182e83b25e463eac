use Rattle.std.specs.Prelude.{◌≡◌, ◌≤◌, ◌*◌, length, take}
use Rattle.std.specs.List.{sum_by}
use Rattle.order_queue.proofs.ordering.total_of.Given as goal

abbrev pub invariant-loop-client : goal.invariant-loop-client
invariant-loop-client l = (l.total ≡ sum_by length (take l.client-index l.clients)) × (l.total ≤ l.client-index * 1000000)
