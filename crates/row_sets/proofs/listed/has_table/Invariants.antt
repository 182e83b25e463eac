use Rattle.std.proofs.Common.{◌≡◌, ◌==◌, drop}
use Rattle.std.specs.List.{list_any}
use Rattle.row_sets.proofs.listed.has_table.Given as goal

-- one is among those that are left, where one is among all
abbrev pub invariant-loop-write : goal.invariant-loop-write
invariant-loop-write l = list_any (λ write. l.table == write.table) (drop l.write-index l.writes) ≡ list_any (λ write. l.table == write.table) l.writes
