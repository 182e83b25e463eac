use Rattle.std.proofs.Common.{◌≡◌, [], take, drop}
use Rattle.proc_check.specs.Walk.{in_order}
use Rattle.proc_check.specs.Statements.{walk_change}
use Rattle.proc_check.proofs.statements.check_changes.Given as goal

-- what is left decides the whole
abbrev pub invariant-loop-i : goal.invariant-loop-i
invariant-loop-i l =
    in_order (walk_change l.tables l.scope l.table) (take l.i l.changes) (drop l.i l.changes) ≡ in_order (walk_change l.tables l.scope l.table) [] l.changes
