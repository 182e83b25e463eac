use Rattle.std.specs.Prelude.{◌≡◌, ◌++◌, map, vec_items}
use Rattle.std.specs.Vec.Iter.{into_iter_items}
use Rattle.order_queue.proofs.remaining.Remaining.new.Given as goal

abbrev pub invariant-loop-client : goal.invariant-loop-client
invariant-loop-client l = map into_iter_items (vec_items l.lists) ++ into_iter_items l.client-iterator ≡ l.fn.clients
