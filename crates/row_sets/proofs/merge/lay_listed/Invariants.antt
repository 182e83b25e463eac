use Rattle.std.proofs.Common.{◌≡◌, drop, map}
use Rattle.rel_base.specs.OwnWrites.{lay_all}
use Rattle.row_sets.specs.Listed.{listed}
use Rattle.row_sets.specs.Overlay.{left}
use Rattle.row_sets.proofs.merge.lay_listed.Given as goal

-- laying those that are left gives what laying all gives
abbrev pub invariant-loop-write : goal.invariant-loop-write
invariant-loop-write l = lay_all l.def l.read l.rows.entries (map left (listed (drop l.write-index l.writes))) ≡ lay_all l.def l.read l.initial.rows.entries (map left (listed l.writes))
