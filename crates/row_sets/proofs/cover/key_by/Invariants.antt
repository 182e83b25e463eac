use Rattle.std.proofs.Common.{◌≡◌, map, take}
use Rattle.rel_base.specs.Row.{value_at}
use Rattle.row_sets.proofs.cover.key_by.Given as goal

abbrev pub invariant-loop-column : goal.invariant-loop-column
invariant-loop-column l = l.key ≡ map (value_at l.row) (take l.column-index l.column-items)
