use Rattle.std.proofs.Common.{◌≡◌, ◌++◌, drop}
use Rattle.std.specs.Option.{option_map}
use Rattle.query_plan.specs.Answer.{all_of, plain_of}
use Rattle.query_plan.proofs.query.plain_items.Given as goal

abbrev pub invariant-loop-item : goal.invariant-loop-item
invariant-loop-item l = option_map (λ rest. l.columns ++ rest) (all_of plain_of (drop l.item-index l.items)) ≡ all_of plain_of l.items
