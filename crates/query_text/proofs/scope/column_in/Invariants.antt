use Rattle.std.proofs.Common.{◌≡◌, drop, Some}
use Rattle.std.specs.List.{position_from}
use Rattle.std.specs.Str.{bytes_eq}
use Rattle.query_text.specs.Walk.{column_of}
use Rattle.query_text.proofs.scope.column_in.Given as goal

abbrev pub invariant-loop-i : goal.invariant-loop-i
invariant-loop-i l = position_from (λ column. bytes_eq column.name l.name) l.i (drop l.i l.def.columns) ≡ column_of (Some l.def) l.name
