use Rattle.std.proofs.Common.{◌≡◌}
use Rattle.crossbeam_queue.specs.Passes.{view, IsPassOf}
use Rattle.order_queue.specs.Standing.{IsCallerOf, KnowsNoMore}
use Rattle.order_queue.proofs.taking.end_or_take.Given as goal

abbrev pub invariant-loop : goal.invariant-loop
invariant-loop g l =
    IsPassOf l.shared.queue l.pass × (view l.pass ≡ view l.initial.pass)
    × IsCallerOf l.shared.queue l.caller
    × KnowsNoMore l.initial.caller l.caller
