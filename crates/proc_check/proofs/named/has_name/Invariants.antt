use Rattle.std.proofs.Common.{◌≡◌, drop}
use Rattle.proc_check.specs.Walk.{has_name}
use Rattle.proc_check.proofs.named.has_name.Given as goal

-- the name is among the items that are left
abbrev pub invariant-loop-item : goal.invariant-loop-item
invariant-loop-item g l = has_name g.T.HasName.named (drop l.item-index l.items) l.name ≡ has_name g.T.HasName.named l.items l.name
