use Rattle.std.proofs.Common.{◌≡◌, map, take}
use Rattle.query_plan.specs.declared.select.Item.TheVariants as item
use Rattle.query_text.proofs.selected.plain.Given as goal

abbrev pub invariant-loop-col : goal.invariant-loop-col
invariant-loop-col l = l.items ≡ map item.Plain (take l.col-index l.columns)
