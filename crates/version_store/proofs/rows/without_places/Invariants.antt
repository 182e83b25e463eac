use Rattle.std.proofs.Common.{◌≡◌, ◌++◌, drop, map}
use Rattle.rel_base.specs.Lent.{lent_rows, rows_of, seen_lent}
use Rattle.version_store.proofs.rows.without_places.Given as goal

-- the rows so far, and those that are left
abbrev pub invariant-loop-seen : goal.invariant-loop-seen
invariant-loop-seen l = lent_rows l.rows.items ++ rows_of (map seen_lent (drop l.seen-index l.lent)) ≡ rows_of (map seen_lent l.lent)
