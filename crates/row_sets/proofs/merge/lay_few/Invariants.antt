use Rattle.std.proofs.Common.{◌≡◌, drop}
use Rattle.row_sets.specs.Overlay.{lay_keys}
use Rattle.row_sets.proofs.merge.lay_few.Given as goal

-- laying those that are left gives what laying all gives
abbrev pub invariant-loop-key : goal.invariant-loop-key
invariant-loop-key l = lay_keys l.def l.read l.rows.entries (drop l.key-index l.few) ≡ lay_keys l.def l.read l.initial.rows.entries l.few
