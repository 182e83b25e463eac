use Rattle.std.proofs.Common.{◌≡◌, [], take, drop}
use Rattle.proc_check.specs.Walk.{in_order}
use Rattle.proc_check.specs.Tables.{listed}
use Rattle.proc_check.proofs.tables.check_all_listed.Given as goal

-- what is left decides the whole
abbrev pub invariant-loop-i : goal.invariant-loop-i
invariant-loop-i l = in_order (listed l.columns) (take l.i l.names) (drop l.i l.names) ≡ in_order (listed l.columns) [] l.names
