use Rattle.std.proofs.Common.{◌≡◌, drop}
use Rattle.query_plan.specs.Plan.{is_bound}
use Rattle.query_plan.proofs.steps.is_bound.Given as goal

abbrev pub invariant-loop-comparison : goal.invariant-loop-comparison
invariant-loop-comparison l = is_bound (drop l.comparison-index l.comparisons) l.source l.bound l.column ≡ is_bound l.comparisons l.source l.bound l.column
