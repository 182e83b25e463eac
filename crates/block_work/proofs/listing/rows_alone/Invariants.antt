use Rattle.std.proofs.Common.{map, ◌++◌, ◌≡◌}
use Rattle.std.specs.Vec.Iter.{into_iter_items}
use Rattle.block_work.proofs.listing.rows_alone.Given as goal
use Rattle.rel_base.specs.declared.access.Seen.{Seen}

-- what is made, with what is left, is the whole
abbrev pub invariant-loop-one : goal.invariant-loop-one
invariant-loop-one l = l.rows ++ map (λ (one : Seen). one.row) (into_iter_items l.one-iterator) ≡ map (λ (one : Seen). one.row) l.fn.seen
