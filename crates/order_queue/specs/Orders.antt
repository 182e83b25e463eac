-- What is made of the client files: one draft of blocks.
use Rattle.std.specs.Prelude.{◌≡◌, ◌≤◌, ℕ, List, length, Ok, None}
use Rattle.std.specs.List.{AllByRecursion}
use Rattle.proc_syntax.specs.declared.call.Block.{Block}
use Rattle.proc_syntax.specs.declared.call.Tx.{Tx}
use Rattle.tx_text.specs.Arrivals.{arrivals}
use Rattle.tx_text.specs.Lines.{HasLine}
use Rattle.chain_file.specs.Chain.{chain}
use Rattle.chain_file.specs.Numbered.{NumberedFrom}
use Rattle.order_queue.specs.Blocks.{FilledBy, joined}
use Rattle.order_queue.specs.Drafts.{draft_text}
use Rattle.order_queue.specs.Merge.{IsMerge}
use Rattle.proc_syntax.specs.Limits.{most_submitted}

-- what a client may submit: at most 1,000,000 transactions, each with a line
pub record IsSubmission (txs : List Tx) : Type 0 where
  pub few : length txs ≤ most_submitted
  pub lines : AllByRecursion HasLine txs

-- so are the transactions of each client file that is read: it has the grammar of an arrival file
abbrev pub FilesAreSubmissions : Type 0
FilesAreSubmissions = (bytes : List ℕ) (txs : List Tx) → arrivals bytes ≡ Ok txs → IsSubmission txs

-- the bytes are the draft of blocks of `most` transactions in which those of all clients are merged, and are read as these blocks
pub record IsOrdered (clients : List (List Tx)) (most : ℕ) (bytes : List ℕ) : Type 0 where
  pub blocks : List Block
  pub from : List ℕ
  pub merge : IsMerge clients from (joined blocks)
  pub numbered : NumberedFrom 1 blocks
  pub filled : FilledBy most blocks
  pub text : bytes ≡ draft_text blocks
  pub again : chain bytes ≡ (blocks, None)
