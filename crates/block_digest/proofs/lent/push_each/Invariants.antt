use Rattle.std.proofs.Common.{map, take, ◌++◌, ◌≡◌}
use Rattle.std.specs.List.{flat_map}
use Rattle.block_digest.proofs.lent.push_each.Given as goal
use Rattle.block_digest.specs.Lent.{placed_at}
use Rattle.canon_code.specs.Writes.{write_code}

-- the code of the writes so far stands at the end
abbrev pub invariant-loop-write : goal.invariant-loop-write
invariant-loop-write l = l.out.items ≡ l.fn.out.items ++ flat_map write_code (map (placed_at l.pos) (take l.write-index l.writes))
