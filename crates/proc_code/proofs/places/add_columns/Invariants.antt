use Rattle.std.proofs.Common.{◌≡◌, drop, map}
use Rattle.proc_code.specs.Numbers.{with_names}
use Rattle.proc_code.proofs.places.add_columns.Given as goal

-- with the names of the columns that are left come the names of all
abbrev pub invariant-loop-column : goal.invariant-loop-column
invariant-loop-column l = with_names l.names (map (λ column. column.name) (drop l.column-index l.columns)) ≡ with_names l.fn.names (map (λ column. column.name) l.columns)
