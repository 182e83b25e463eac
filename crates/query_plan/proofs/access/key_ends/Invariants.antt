use Rattle.std.proofs.Common.{◌≡◌, ◌++◌, drop}
use Rattle.std.specs.Option.{option_map}
use Rattle.query_plan.specs.Reads.{key_ends}
use Rattle.query_plan.proofs.access.key_ends.Given as goal

abbrev pub invariant-loop-column : goal.invariant-loop-column
invariant-loop-column l = option_map (λ rest. l.key ++ rest) (key_ends l.def l.comparisons l.prefix (drop l.column-index l.column-items)) ≡ key_ends l.def l.comparisons l.prefix l.def.key
