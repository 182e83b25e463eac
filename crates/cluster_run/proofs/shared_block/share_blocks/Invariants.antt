use Rattle.std.specs.Prelude.{◌++◌, ◌≡◌}
use Rattle.std.specs.Vec.Iter.{into_iter_items}
use Rattle.cluster_run.proofs.shared_block.share_blocks.Given as goal

-- those that are shared, and then those that are left, are all
abbrev pub invariant-loop-block : goal.invariant-loop-block
invariant-loop-block l = l.shared ++ into_iter_items l.block-iterator ≡ l.fn.blocks
