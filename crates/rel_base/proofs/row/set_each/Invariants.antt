use Rattle.std.proofs.Common.{◌≡◌, drop}
use Rattle.rel_base.specs.Row.{set_columns}
use Rattle.rel_base.proofs.row.set_each.Given as goal

-- the changes that are left give what all give
abbrev pub invariant-loop-column : goal.invariant-loop-column
invariant-loop-column l = set_columns l.values (drop l.column-index l.changes) ≡ set_columns l.initial.values l.changes
