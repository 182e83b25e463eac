use Rattle.std.proofs.Common.{◌≡◌, drop}
use Rattle.row_sets.specs.Few.{place_from}
use Rattle.row_sets.proofs.few_writes.search.Given as goal

-- its place is among those that are left
abbrev pub invariant-loop-place : goal.invariant-loop-place
invariant-loop-place l = place_from l.place l.key (drop l.place l.few) ≡ place_from 0 l.key l.few
