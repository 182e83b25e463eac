use Rattle.std.proofs.Common.{◌≡◌, drop}
use Rattle.std.specs.List.{position_from}
use Rattle.std.specs.Str.{bytes_eq}
use Rattle.proc_eval.proofs.scope.column_in.Given as goal

-- the place is among those that are left
abbrev pub invariant-loop-i : goal.invariant-loop-i
invariant-loop-i l =
    position_from (λ column. bytes_eq column.name l.name) l.i (drop l.i l.def.columns) ≡ position_from (λ column. bytes_eq column.name l.name) 0 l.def.columns
