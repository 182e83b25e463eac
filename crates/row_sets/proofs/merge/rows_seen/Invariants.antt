use Rattle.std.proofs.Common.{◌≡◌, map, take}
use Rattle.row_sets.proofs.merge.rows_seen.Given as goal

-- the rows so far
abbrev pub invariant-loop-seen : goal.invariant-loop-seen
invariant-loop-seen l = l.rows ≡ map (λ seen. seen.row) (take l.seen-index l.seens)
