use Rattle.std.proofs.Common.{◌≡◌, [], take, drop}
use Rattle.proc_check.specs.Walk.{in_order}
use Rattle.proc_check.specs.Apps.{walk_proc}
use Rattle.proc_check.proofs.procedures.check_procedures.Given as goal

-- what is left decides the whole
abbrev pub invariant-loop-i : goal.invariant-loop-i
invariant-loop-i l =
    in_order (walk_proc l.tables) (take l.i l.procedures) (drop l.i l.procedures) ≡ in_order (walk_proc l.tables) [] l.procedures
