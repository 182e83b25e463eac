-- What a schedule comes to: the fold of the blocks that it delivered.
use Rattle.node_model.specs.Fold.{fold, no_work, seal, work_through}
use Rattle.node_model.specs.Journals.{delivered}
use Rattle.node_model.specs.World.{BlockInWork, World, decided}
use Rattle.node_model.specs.declared.journal.Entry.{Entry}
use Rattle.proc_syntax.specs.declared.call.Block.{Block}
use Rattle.proc_syntax.specs.declared.tree.App.{App}
use Rattle.serial_laws.specs.Chained.{AreNumbered}
use Rattle.std.specs.Prelude.{List, None, Option, Some, [], drop, length, take, ◌≡◌, ◌∷◌}

abbrev pub block_in : Option BlockInWork → List Block
block_in None = []
block_in (Some work) = work.block ∷ []

-- what the block in work came to so far is what its first transactions come to in the fold
pub record IsOfBlock (app : App) (w : World) (work : BlockInWork) : Type 0 where
  pub done : work.done ≡ work_through app w.sealed work.block.number no_work (take (decided work) work.block.txs)
  pub first : work.done.outcomes ≡ take (decided work) (seal app w.sealed work.block).outcomes

-- The sealed blocks are the fold of the first that were delivered; what was delivered besides is the block in work; and they are
-- numbered from 1.
pub record IsOfFold (app : App) (journal : List Entry) (w : World) : Type 0 where
  pub sealed : w.sealed ≡ fold app (take (length w.sealed) (delivered journal))
  pub in_work : drop (length w.sealed) (delivered journal) ≡ block_in w.work
  pub so_far : (work : BlockInWork) → w.work ≡ Some work → IsOfBlock app w work
  pub numbered : AreNumbered 1 (delivered journal)
