use Rattle.std.proofs.Common.{◌≡◌, drop}
use Rattle.std.specs.FinMap.Entries.{find}
use Rattle.rel_base.specs.Tables.{ref_cmp}
use Rattle.row_sets.specs.Listed.{listed}
use Rattle.row_sets.proofs.listed.find_listed.Given as goal

-- it is found among those that are left, where it is found
abbrev pub invariant-loop-write : goal.invariant-loop-write
invariant-loop-write l = find ref_cmp (l.table, l.key) (listed (drop l.write-index l.writes)) ≡ find ref_cmp (l.table, l.key) (listed l.writes)
