use Rattle.std.proofs.Common.{drop, ◌≡◌}
use Rattle.std.specs.Bool.{nat_eq}
use Rattle.std.specs.List.{list_any}
use Rattle.serial_order.proofs.check.is_in.Given as goal

-- what is left decides the whole
abbrev pub invariant-loop-other : goal.invariant-loop-other
invariant-loop-other l = list_any (nat_eq l.pos) (drop l.other-index l.positions) ≡ list_any (nat_eq l.pos) l.positions
