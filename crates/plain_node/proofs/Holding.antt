-- A node that holds the fold of some blocks.
use Rattle.std.proofs.Common.{List, [], subst, sym, ◌++◌, ◌≡◌, ◌∷◌, ℕ}
use Rattle.block_work.specs.Block.{sealed_of, work_of}
use Rattle.block_work.specs.Chain.{HoldsChain}
use Rattle.block_work.specs.Ids.{HasFirstPlaces}
use Rattle.block_work.specs.declared.block.BlockInWork.{BlockInWork}
use Rattle.block_work.specs.declared.ids.IdIndex.{IdIndex}
use Rattle.node_model.specs.Fold.{Work, fold, no_work, seal, work_on, work_through}
use Rattle.node_model.specs.History.{SealedBlock}
use Rattle.node_model.specs.declared.result.BlockResult.{BlockResult}
use Rattle.plain_node.specs.Holding.{HoldsFold}
use Rattle.proc_syntax.specs.Declaring.{tables_of}
use Rattle.proc_syntax.specs.declared.call.Block.{Block}
use Rattle.proc_syntax.specs.declared.call.Tx.{Tx}
use Rattle.proc_syntax.specs.declared.tree.App.{App}
use Rattle.rel_base.specs.Tables.{Stamped}
use Rattle.serial_laws.proofs.Growing.{fold_more}

-- with the next block decided, it holds the fold of one block more
pub holds_next : (app : App) (blocks : List Block) (block : Block) (history : List Stamped) (ids : IdIndex) (results : List BlockResult)
    → HoldsChain (tables_of app) (fold app blocks ++ seal app (fold app blocks) block ∷ []) history results
    → HasFirstPlaces ids (fold app blocks ++ seal app (fold app blocks) block ∷ []) 0 []
    → HoldsFold app (blocks ++ block ∷ []) history ids results
holds_next app blocks block history ids results chain places =
    let grown = sym (fold_more app blocks block []) in
    record {
      chain = subst (λ sealed. HoldsChain (tables_of app) sealed history results) grown chain;
      places = subst (λ sealed. HasFirstPlaces ids sealed 0 []) grown places;
    }

-- a block in work, all of whose transactions are decided, is the block of the definition
pub sealed_is : (app : App) (sealed : List SealedBlock) (block : Block) (work : BlockInWork) → work.number ≡ block.number → work.time ≡ block.time
    → work_of work ≡ work_through app sealed block.number no_work block.txs → sealed_of work ≡ seal app sealed block
sealed_is app sealed block work number time done = λ i. record { number = number i; time = time i; outcomes = (done i).outcomes; committed = (done i).committed }

-- one transaction more is done, and one less is left
pub step_on : (app : App) (sealed : List SealedBlock) (number : ℕ) (left rest : List Tx) (tx : Tx) (old new whole : Work) → left ≡ tx ∷ rest → new ≡ work_on app sealed number old tx
    → work_through app sealed number old left ≡ whole → work_through app sealed number new rest ≡ whole
step_on app sealed number left rest tx old new whole first done is =
    subst (λ work. work_through app sealed number work rest ≡ whole) (sym done) (subst (λ txs. work_through app sealed number old txs ≡ whole) first is)
