use Rattle.std.proofs.Common.{drop, ◌≡◌}
use Rattle.std.specs.Bool.{nat_eq}
use Rattle.std.specs.List.{list_all, list_any}
use Rattle.serial_order.proofs.check.are_in.Given as goal

-- what is left decides the whole
abbrev pub invariant-loop-pos : goal.invariant-loop-pos
invariant-loop-pos l = list_all (λ pos. list_any (nat_eq pos) l.positions) (drop l.pos-index l.list) ≡ list_all (λ pos. list_any (nat_eq pos) l.positions) l.list
