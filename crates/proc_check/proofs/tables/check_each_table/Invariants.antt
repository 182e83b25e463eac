use Rattle.std.proofs.Common.{◌≡◌, [], take, drop}
use Rattle.proc_check.specs.Walk.{in_order}
use Rattle.proc_check.specs.Tables.{walk_table}
use Rattle.proc_check.proofs.tables.check_each_table.Given as goal

-- what is left decides the whole
abbrev pub invariant-loop-i : goal.invariant-loop-i
invariant-loop-i l = in_order walk_table (take l.i l.tables) (drop l.i l.tables) ≡ in_order walk_table [] l.tables
