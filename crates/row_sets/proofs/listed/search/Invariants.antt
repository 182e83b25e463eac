use Rattle.std.proofs.Common.{◌≡◌, drop}
use Rattle.rel_base.specs.Tables.{ref_cmp}
use Rattle.row_sets.specs.Few.{place_in}
use Rattle.row_sets.specs.Listed.{listed}
use Rattle.row_sets.proofs.listed.search.Given as goal

-- its place is among those that are left
abbrev pub invariant-loop-place : goal.invariant-loop-place
invariant-loop-place l = place_in ref_cmp l.place (l.table, l.key) (listed (drop l.place l.writes)) ≡ place_in ref_cmp 0 (l.table, l.key) (listed l.writes)
