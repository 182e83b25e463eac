use Rattle.std.proofs.Common.{◌≤◌, false}
use Rattle.order_queue.specs.Standing.{IsCallerOf, IsClientOf, KnowsNoMore}
use Rattle.order_queue.proofs.taking.finish.Given as goal

abbrev pub invariant-loop-index : goal.invariant-loop-index
invariant-loop-index g l =
    IsClientOf l.shared.queue l.pass l.client l.index false × (l.index ≤ l.count)
    × IsCallerOf l.shared.queue l.caller
    × KnowsNoMore l.initial.caller l.caller
