-- What it means that the committed transactions of a block can be run again one by one, by anyone.
use Rattle.node_model.specs.Fold.{fold, seal}
use Rattle.node_model.specs.History.{snapshot}
use Rattle.node_model.specs.declared.result.BlockResult.{BlockResult}
use Rattle.proc_check.specs.Apps.{first_fault}
use Rattle.proc_syntax.specs.declared.call.Block.{Block}
use Rattle.proc_syntax.specs.declared.run.Ending.TheVariants.{Good}
use Rattle.proc_syntax.specs.declared.run.Ran.{Ran}
use Rattle.proc_syntax.specs.declared.tree.App.{App}
use Rattle.serial_laws.specs.Replay.{IsRecorded, committed_run, own_run, replay, tx_at}
use Rattle.std.specs.Option.{IsSomeAnd}
use Rattle.std.specs.Prelude.{All, IsPermutation, List, None, [], length, map, slice_get, ◌++◌, ◌-◌, ◌≡◌, ◌∷◌, ℕ}

-- the runs of the transactions at some positions of a block, each on the tables of its own height
abbrev pub own_runs : App → List Block → Block → List ℕ → List Ran
own_runs app blocks block positions = map (λ pos. own_run app (fold app blocks) (tx_at block.txs pos)) positions

-- Some positions of a block are an order in which its committed transactions run again, where the blocks before it are given: it lists the
-- position of each once; the transactions there, run one after another from the tables before the block, make the runs with which they
-- committed, read by read and write by write, and end in the tables after the block; and these runs are what is recorded of them, none
-- with a fault.
pub record RunInOrder (app : App) (blocks : List Block) (block : Block) (positions : List ℕ) : Type 0 where
  pub listed : IsPermutation (map (λ done. done.pos) (seal app (fold app blocks) block).committed) positions
  pub replayed : replay app (fold app blocks) block (snapshot (block.number - 1) (fold app blocks)) positions
      ≡ record { runs = own_runs app blocks block positions; tables = snapshot block.number (fold app (blocks ++ block ∷ [])) }
  pub recorded : All (λ done. IsRecorded (committed_run app (fold app blocks) block done) done) (seal app (fold app blocks) block).committed
  pub good : first_fault app ≡ None → All (λ done. (committed_run app (fold app blocks) block done).ending ≡ Good) (seal app (fold app blocks) block).committed

-- the results that are reported of a chain of blocks have, for each block, an order in which its committed transactions run again
abbrev pub EachInOrder : App → List Block → List BlockResult → Type 0
EachInOrder app blocks results = (before : List Block) (block : Block) (after : List Block) → blocks ≡ before ++ block ∷ after
    → IsSomeAnd (slice_get results (length before)) (λ told. RunInOrder app before block told.order)
