use Rattle.std.proofs.Common.{◌≡◌, drop}
use Rattle.proc_check.specs.Tables.{column_kind}
use Rattle.proc_check.proofs.tables.column_kind.Given as goal

-- the column is among those that are left
abbrev pub invariant-loop-column : goal.invariant-loop-column
invariant-loop-column l = column_kind (drop l.column-index l.columns) l.name ≡ column_kind l.columns l.name
