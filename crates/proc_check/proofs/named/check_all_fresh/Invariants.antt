use Rattle.std.proofs.Common.{◌≡◌, [], take, drop}
use Rattle.proc_check.specs.Walk.{in_order, fresh}
use Rattle.proc_check.proofs.named.check_all_fresh.Given as goal

-- what is left decides the whole
abbrev pub invariant-loop-i : goal.invariant-loop-i
invariant-loop-i g l = in_order (fresh g.T.HasName.named l.most) (take l.i l.items) (drop l.i l.items) ≡ in_order (fresh g.T.HasName.named l.most) [] l.items
