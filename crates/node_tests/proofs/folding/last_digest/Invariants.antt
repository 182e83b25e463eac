use Rattle.std.specs.Prelude.{drop, length, ◌+◌}
use Rattle.block_work.specs.Chain.{StoreFits}
use Rattle.block_work.specs.Ids.{AreUpTo}
use Rattle.serial_laws.specs.Chained.{AreNumbered}
use Rattle.node_tests.proofs.folding.last_digest.Given as goal

-- the node is one that goes on, and its next block is the first of those that are left
abbrev pub invariant-loop-block : goal.invariant-loop-block
invariant-loop-block l =
    StoreFits l.node.chain.app.value.app l.node.chain.versions.0 l.node.chain.versions.1.0 l.node.chain.blocks
    × AreUpTo (length l.node.chain.blocks) l.node.ids
    × AreNumbered (length l.node.chain.blocks + 1) (drop l.block-index l.blocks)
