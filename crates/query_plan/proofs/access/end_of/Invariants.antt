use Rattle.std.proofs.Common.{◌≡◌, drop}
use Rattle.query_plan.specs.Reads.{end_of}
use Rattle.query_plan.proofs.access.end_of.Given as goal

abbrev pub invariant-loop-comparison : goal.invariant-loop-comparison
invariant-loop-comparison l = end_of (drop l.comparison-index l.comparisons) l.prefix l.column l.bound ≡ end_of l.comparisons l.prefix l.column l.bound
