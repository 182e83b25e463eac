use Rattle.std.proofs.Common.{◌≡◌, ◌++◌}
use Rattle.std.specs.Array.Iter.{array_into_iter_items}
use Rattle.rel_base.proofs.row.many_cells.Given as goal

-- the values so far, and those that are left
abbrev pub invariant-loop-value : goal.invariant-loop-value
invariant-loop-value l = l.values.items ++ array_into_iter_items l.value-iterator ≡ l.fn.few
