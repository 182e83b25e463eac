use Rattle.std.proofs.Common.{◌≡◌, drop}
use Rattle.std.specs.List.{list_all}
use Rattle.query_plan.specs.Walk.{passes}
use Rattle.query_plan.proofs.walk.holds_at_last.Given as goal

abbrev pub invariant-loop-comparison : goal.invariant-loop-comparison
invariant-loop-comparison l = list_all (passes l.count l.prefix) (drop l.comparison-index l.comparisons) ≡ list_all (passes l.count l.prefix) l.comparisons
