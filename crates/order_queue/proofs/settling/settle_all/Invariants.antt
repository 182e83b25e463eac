use Rattle.std.specs.Prelude.{◌≡◌, ◌<◌, ◌+◌, ℕ, length, get_or, slice_index}
use Rattle.std.specs.Vec.Iter.{into_iter_items, into_iter_len}
use Rattle.crossbeam_queue.specs.Passes.{view}
use Rattle.order_queue.specs.Standing.{IsCallerOf}
use Rattle.order_queue.specs.Works.{WorksFor, known_of}
use Rattle.order_queue.proofs.settling.settle_all.Given as goal

abbrev pub invariant-loop-work : goal.invariant-loop-work
invariant-loop-work g l =
    IsCallerOf l.shared.queue l.caller
    × ((view l.caller.pass).known ≡ known_of l.counts l.done)
    × ((view l.caller.pass).made ≡ (view l.initial.caller.pass).made)
    × (l.done + into_iter_len l.work-iterator ≡ length l.counts)
    × ((k : ℕ) (d : _) → k < into_iter_len l.work-iterator → WorksFor l.shared.queue.table.shared.table_id (l.done + k + 1) (slice_index l.counts (l.done + k)) (get_or (into_iter_items l.work-iterator) k d))
