use Rattle.std.specs.Prelude.{◌≡◌, map, length, take, vec_items}
use Rattle.order_queue.proofs.ordering.counts_of.Given as goal

abbrev pub invariant-loop-client : goal.invariant-loop-client
invariant-loop-client l = vec_items l.counts ≡ map length (take l.client-index l.clients)
