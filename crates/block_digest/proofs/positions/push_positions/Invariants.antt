use Rattle.std.proofs.Common.{◌≡◌, ◌++◌, take}
use Rattle.std.specs.List.{flat_map}
use Rattle.node_model.specs.BlockCode.{small_code}
use Rattle.block_digest.proofs.positions.push_positions.Given as goal

-- the code of the items so far stands at the end
abbrev pub invariant-loop-pos : goal.invariant-loop-pos
invariant-loop-pos l = l.out.items ≡ l.fn.out.items ++ flat_map small_code (take l.pos-index l.order)
