use Rattle.std.proofs.Common.{◌≡◌, ◌++◌, take}
use Rattle.std.specs.List.{flat_map}
use Rattle.node_model.specs.BlockCode.{told_code}
use Rattle.block_digest.proofs.write_block.push_all_told.Given as goal

-- the code of the items so far stands at the end
abbrev pub invariant-loop-told : goal.invariant-loop-told
invariant-loop-told l = l.out.items ≡ l.fn.out.items ++ flat_map told_code (take l.told-index l.outcomes)
