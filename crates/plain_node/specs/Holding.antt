-- What a node holds of a chain of blocks.
use Rattle.block_work.specs.Chain.{HoldsChain}
use Rattle.block_work.specs.Ids.{HasFirstPlaces}
use Rattle.block_work.specs.declared.ids.IdIndex.{IdIndex}
use Rattle.node_model.specs.Fold.{fold}
use Rattle.node_model.specs.declared.result.BlockResult.{BlockResult}
use Rattle.proc_syntax.specs.Declaring.{tables_of}
use Rattle.proc_syntax.specs.declared.call.Block.{Block}
use Rattle.proc_syntax.specs.declared.tree.App.{App}
use Rattle.rel_base.specs.Tables.{Stamped}
use Rattle.std.specs.Prelude.{List, []}

-- a store, an index of ids and some results are those of the fold of some blocks, and no transaction of the next block is decided
pub record HoldsFold (app : App) (blocks : List Block) (history : List Stamped) (ids : IdIndex) (results : List BlockResult) : Type 0 where
  pub chain : HoldsChain (tables_of app) (fold app blocks) history results
  pub places : HasFirstPlaces ids (fold app blocks) 0 []
