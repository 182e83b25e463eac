use Rattle.std.proofs.Common.{◌≡◌, ◌++◌, take}
use Rattle.std.specs.List.{flat_map}
use Rattle.canon_code.specs.Writes.{write_code}
use Rattle.block_digest.proofs.write_block.push_all_placed.Given as goal

-- the code of the items so far stands at the end
abbrev pub invariant-loop-placed : goal.invariant-loop-placed
invariant-loop-placed l = l.out.items ≡ l.fn.out.items ++ flat_map write_code (take l.placed-index l.writes)
