use Rattle.std.proofs.Common.{◌≡◌, ◌++◌}
use Rattle.std.specs.Option.{option_map}
use Rattle.query_plan.specs.Answer.{all_of}
use Rattle.query_plan.specs.Tallies.{value_of}
use Rattle.query_plan.proofs.tally.row_of.Given as goal

abbrev pub invariant-loop-tally : goal.invariant-loop-tally
invariant-loop-tally l = option_map (λ rest. l.values ++ rest) (all_of value_of l.tally-iterator.rest.items) ≡ all_of value_of l.fn.tallies
