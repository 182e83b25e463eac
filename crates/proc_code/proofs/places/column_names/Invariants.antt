use Rattle.std.proofs.Common.{◌≡◌, drop, map}
use Rattle.std.specs.List.{flat_map}
use Rattle.proc_code.specs.Numbers.{with_names, column_names}
use Rattle.proc_code.proofs.places.column_names.Given as goal

-- with the names of the tables that are left come the names of all
abbrev pub invariant-loop-def : goal.invariant-loop-def
invariant-loop-def l = with_names l.names (flat_map (λ def. map (λ column. column.name) def.columns) (drop l.def-index l.tables)) ≡ column_names l.tables
