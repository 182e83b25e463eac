use Rattle.std.proofs.Common.{◌≡◌, drop}
use Rattle.query_text.specs.Walk.{each, scope_of, walk_comparison, with_made}
use Rattle.query_text.proofs.walk.walk_comparisons.Given as goal

abbrev pub invariant-loop-comparison : goal.invariant-loop-comparison
invariant-loop-comparison l = with_made l.made (each (walk_comparison (scope_of l.sources)) (drop l.comparison-index l.comparisons)) ≡ each (walk_comparison (scope_of l.sources)) l.comparisons
