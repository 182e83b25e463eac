use Rattle.std.proofs.Common.{◌≡◌, ◌++◌}
use Rattle.std.specs.Map.{values_of}
use Rattle.version_store.proofs.rows.in_order.Given as goal

-- the rows so far, and those that are left
abbrev pub invariant-loop-seen : goal.invariant-loop-seen
invariant-loop-seen l = l.list.items ++ l.seen-iterator ≡ values_of l.fn.rows.entries
