-- Blocks on the way: those that are full, and an open one.
use Rattle.std.specs.Prelude.{◌≡◌, ℕ, ◌<◌, List, [], ◌∷◌, ◌++◌, length}
use Rattle.proc_syntax.specs.declared.call.Block.{Block}
use Rattle.proc_syntax.specs.declared.call.Tx.{Tx}
use Rattle.order_queue.specs.declared.bins.Filling.{Filling}
use Rattle.chain_file.specs.Numbered.{HaveNoTimes, NumberedFrom}
use Rattle.order_queue.specs.Blocks.{joined}

-- each block has `most` transactions
abbrev pub AllFull : ℕ → List Block → Type 0
AllFull most [] = Unit {0}
AllFull most (block ∷ blocks) = (length block.txs ≡ most) × AllFull most blocks

-- all that was added
abbrev pub all_of : Filling → List Tx
all_of f = joined f.full.items ++ f.next

pub record IsFilling (most : ℕ) (f : Filling) : Type 0 where
  pub numbered : NumberedFrom 1 f.full.items
  pub times : HaveNoTimes f.full.items
  pub full : AllFull most f.full.items
  pub few : length f.next < most
