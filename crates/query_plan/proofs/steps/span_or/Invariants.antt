use Rattle.std.proofs.Common.{◌≡◌, drop}
use Rattle.query_plan.specs.Plan.{span_or}
use Rattle.query_plan.proofs.steps.span_or.Given as goal

abbrev pub invariant-loop-column : goal.invariant-loop-column
invariant-loop-column l = span_or l.comparisons l.source (drop l.column-index l.columns) l.access ≡ span_or l.comparisons l.source l.columns l.access
