use Rattle.std.proofs.Common.{◌≡◌, map, take}
use Rattle.query_plan.proofs.steps.plan.Given as goal

abbrev pub invariant-loop-step : goal.invariant-loop-step
invariant-loop-step l = l.accesses ≡ map (λ step. step.access) (take l.step-index l.step-items)
