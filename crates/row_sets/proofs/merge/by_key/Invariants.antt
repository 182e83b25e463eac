use Rattle.std.proofs.Common.{◌≡◌, ◌≤◌, drop, length}
use Rattle.rel_base.specs.OwnWrites.{keyed}
use Rattle.row_sets.proofs.merge.by_key.Given as goal

abbrev pub invariant-loop-i : goal.invariant-loop-i
invariant-loop-i l = (l.rows.entries ≡ keyed l.def (drop l.i l.seens)) × (l.i ≤ length l.seens)
