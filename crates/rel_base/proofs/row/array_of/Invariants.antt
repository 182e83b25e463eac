use Rattle.std.proofs.Common.{◌≡◌, length, take}
use Rattle.rel_base.proofs.row.array_of.Given as goal

-- those that were copied so far stand at their places
abbrev pub invariant-loop-at : goal.invariant-loop-at
invariant-loop-at g l = (take l.at l.made ≡ take l.at l.values) × (length l.made ≡ g.row.N)
