-- What a node holds that is given the blocks of a file one after another, and processes those up to a height.
use Rattle.std.specs.Prelude.{List, length, take, ℕ, ◌≡◌, ◌≤◌}
use Rattle.bcdb.specs.declared.folding.Folded.{Folded}
use Rattle.bcdb.specs.declared.folding.Folding.{Folding}
use Rattle.block_work.specs.Chain.{StoreFits}
use Rattle.block_work.specs.Ids.{AreUpTo}
use Rattle.block_work.specs.declared.ids.IdIndex.{IdIndex}
use Rattle.chain_file.specs.Chain.{chain}
use Rattle.chain_file.specs.Following.{WasFed}
use Rattle.chain_file.specs.Numbered.{NumberedFrom}
use Rattle.node_model.specs.declared.result.BlockResult.{BlockResult}
use Rattle.plain_node.specs.Holding.{HoldsFold}
use Rattle.proc_syntax.specs.declared.call.Block.{Block}
use Rattle.proc_syntax.specs.declared.tree.App.{App}
use Rattle.rel_base.specs.Tables.{Stamped}
use Rattle.rel_base.specs.declared.schema.TableDef.{TableDef}

-- the height that no block is above
abbrev pub all_blocks : ℕ
all_blocks = 18446744073709551615

-- it was given these blocks, and its store, ids and results are those of the fold of the ones up to the height
pub record HoldsFirst (height : ℕ) (blocks : List Block) (taken : ℕ) (own : App) (tables : List TableDef) (history : List Stamped) (ids : IdIndex) (results : List BlockResult) : Type 0 where
  pub count : taken ≡ length blocks
  pub fits : StoreFits own tables history results
  pub upto : AreUpTo (length results) ids
  pub holds : HoldsFold own (take height blocks) history ids results

-- while a file is read: these bytes so far, and it was given the blocks that ended in them
pub record HasFolded (folding : Folding) (bytes : List ℕ) : Type 0 where
  pub fed : WasFed folding.reader bytes
  pub holds : HoldsFirst folding.height (chain bytes).0 folding.taken folding.node.chain.app.value.app folding.node.chain.versions.0 folding.node.chain.versions.1.0 folding.node.ids folding.node.chain.blocks

-- the application that its blocks ran on
abbrev pub app_of : Folded → App
app_of folded = folded.node.chain.app.value.app

-- once the file was read: it was given these blocks, which are numbered from 1
pub record Folds (height : ℕ) (blocks : List Block) (folded : Folded) : Type 0 where
  pub numbered : NumberedFrom 1 blocks
  pub few : folded.taken ≤ all_blocks
  pub holds : HoldsFirst height blocks folded.taken (app_of folded) folded.node.chain.versions.0 folded.node.chain.versions.1.0 folded.node.ids folded.node.chain.blocks
