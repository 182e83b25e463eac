use Rattle.std.proofs.Common.{◌≡◌, ◌++◌}
use Rattle.std.specs.Map.{values_of}
use Rattle.std.specs.Option.{option_map}
use Rattle.query_plan.specs.Answer.{all_of}
use Rattle.query_plan.specs.Tallies.{value_of}
use Rattle.query_plan.proofs.group.rows_of.Given as goal

abbrev pub invariant-loop-tallies : goal.invariant-loop-tallies
invariant-loop-tallies l = option_map (λ rest. l.rows ++ rest) (all_of (all_of value_of) l.tallies-iterator) ≡ all_of (all_of value_of) (values_of l.fn.groups.entries)
