use Rattle.std.specs.Prelude.{◌≡◌, ◌≤◌, [], length, vec_items, vec_len, vec_capacity}
use Rattle.crossbeam_queue.specs.Passes.{view}
use Rattle.order_queue.specs.Standing.{IsCallerOf}
use Rattle.order_queue.specs.Works.{AreWorks}
use Rattle.order_queue.proofs.threads.fn.run_clients.scope.Given as goal

abbrev pub invariant-loop-i : goal.invariant-loop-i
invariant-loop-i g l =
    IsCallerOf l.shared.queue l.caller
    × ((view l.caller.pass).known ≡ [])
    × ((view l.caller.pass).made ≡ l.i)
    × (vec_len l.works ≡ l.i)
    × (length l.counts ≤ vec_capacity l.works)
    × AreWorks l.shared.queue.table.shared.table_id l.counts (vec_items l.works)
