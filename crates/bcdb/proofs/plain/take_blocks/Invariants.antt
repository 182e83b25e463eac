use Rattle.std.proofs.Common.{List, ◌++◌, ◌≡◌}
use Rattle.std.specs.Vec.Iter.{into_iter_items}
use Rattle.bcdb.proofs.plain.take_blocks.Given as goal
use Rattle.bcdb.specs.Folds.{HoldsFirst}
use Rattle.proc_syntax.specs.declared.call.Block.{Block}

-- the node holds the fold of the blocks so far, which with those that are left are all
abbrev pub invariant-loop-block : goal.invariant-loop-block
invariant-loop-block g l = (l.node.chain.app.value ≡ l.fn.node.chain.app.value)
    × ((before : List Block)
    → HoldsFirst l.height before l.fn.taken l.fn.node.chain.app.value.app (g.V.Versions.tables l.fn.node.chain.versions) (g.V.Versions.history l.fn.node.chain.versions) l.fn.node.ids l.fn.node.chain.blocks
    → (given : List Block) × ((given ++ into_iter_items l.block-iterator ≡ before ++ l.fn.blocks)
    × HoldsFirst l.height given l.taken l.node.chain.app.value.app (g.V.Versions.tables l.node.chain.versions) (g.V.Versions.history l.node.chain.versions) l.node.ids l.node.chain.blocks))
