use Rattle.std.proofs.Common.{◌≡◌, drop}
use Rattle.query_plan.specs.Plan.{are_given}
use Rattle.query_plan.proofs.steps.are_given.Given as goal

abbrev pub invariant-loop-column : goal.invariant-loop-column
invariant-loop-column l = are_given l.comparisons l.source (drop l.column-index l.key) ≡ are_given l.comparisons l.source l.key
