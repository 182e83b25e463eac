use Rattle.std.proofs.Common.{List, [], drop, length, ◌≡◌}
use Rattle.block_work.specs.Block.{IsConsistent, work_of}
use Rattle.block_work.specs.Chain.{HoldsChain}
use Rattle.block_work.specs.Ids.{AddsAmong, HasFirstPlaces}
use Rattle.node_model.specs.Fold.{work_through}
use Rattle.node_model.specs.History.{SealedBlock}
use Rattle.plain_node.proofs.process.decide_all.Given as goal
use Rattle.proc_syntax.specs.Declaring.{tables_of}

-- what is left of the block decides the whole, on each chain that is held
abbrev pub invariant-loop-tx : goal.invariant-loop-tx
invariant-loop-tx g l = (l.work.number ≡ l.fn.work.number)
    × (l.work.time ≡ l.fn.work.time)
    × IsConsistent (tables_of l.chain.app.value.app) l.work
    × (length l.work.outcomes.items ≡ l.tx-index)
    × AddsAmong l.fn.ids l.ids l.fn.work.number l.work.outcomes.items
    × ((sealed : List SealedBlock) → HoldsChain (tables_of l.chain.app.value.app) sealed (g.V.Versions.history l.chain.versions) l.chain.blocks → HasFirstPlaces l.fn.ids sealed l.fn.work.number []
    → (work_through l.chain.app.value.app sealed l.fn.work.number (work_of l.work) (drop l.tx-index l.txs) ≡ work_through l.chain.app.value.app sealed l.fn.work.number (work_of l.fn.work) l.txs)
    × HasFirstPlaces l.ids sealed l.fn.work.number l.work.outcomes.items)
