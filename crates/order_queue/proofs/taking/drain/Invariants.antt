use Rattle.order_queue.specs.Standing.{IsCallerOf, KnowsNoMore}
use Rattle.order_queue.proofs.taking.drain.Given as goal

abbrev pub invariant-loop : goal.invariant-loop
invariant-loop g l =
    IsCallerOf l.shared.queue l.caller
    × KnowsNoMore l.initial.caller l.caller
