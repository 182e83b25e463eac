-- The fold of a chain of blocks: each transaction is decided on what the ones before it made.
use Rattle.node_model.specs.BlockCode.{digest_of}
use Rattle.node_model.specs.Decide.{decide_by, run_at}
use Rattle.node_model.specs.History.{SealedBlock, placed_of, snapshot}
use Rattle.node_model.specs.Order.{serial_order}
use Rattle.node_model.specs.declared.outcome.Outcome.{Outcome}
use Rattle.node_model.specs.declared.outcome.Outcome.TheVariants as outcome
use Rattle.node_model.specs.declared.result.BlockResult.{BlockResult}
use Rattle.node_model.specs.declared.result.Committed.{Committed}
use Rattle.node_model.specs.declared.result.NodeResult.{NodeResult}
use Rattle.node_model.specs.declared.result.TableRows.{TableRows}
use Rattle.node_model.specs.declared.result.Told.{Told}
use Rattle.proc_syntax.specs.declared.run.Ran.{Ran}
use Rattle.proc_syntax.specs.declared.call.Block.{Block}
use Rattle.proc_syntax.specs.declared.call.Tx.{Tx}
use Rattle.proc_syntax.specs.declared.tree.App.{App}
use Rattle.proc_syntax.specs.Declaring.{tables_of}
use Rattle.rel_base.specs.Tables.{Tables}
use Rattle.rel_base.specs.declared.schema.TableDef.{TableDef}
use Rattle.std.specs.FinMap as finite
use Rattle.std.specs.List as list
use Rattle.std.specs.List.{filter}
use Rattle.std.specs.Prelude.{List, [], length, map, replicate, ℕ, ◌+◌, ◌++◌, ◌==◌, ◌∷◌}

-- a block in work: its outcomes so far, and its committed transactions
pub record Work : Type 0 where
  pub outcomes : List Told
  pub committed : List Committed

abbrev pub no_work : Work
no_work = record { outcomes = []; committed = [] }

-- a transaction joins the committed ones of its block exactly where it commits
abbrev pub join_committed : List Committed → ℕ → Ran → Outcome → List Committed
join_committed committed pos ran outcome.Committed = committed ++ record { pos = pos; reads = ran.reads; writes = ran.writes } ∷ []
join_committed committed pos ran _ = committed

-- the next transaction of the block of a number is decided, by a run
abbrev pub work_by : App → List SealedBlock → ℕ → Work → Tx → Ran → Work
work_by app chain number work tx ran = let found : Outcome = decide_by app chain number work.outcomes work.committed tx ran in record {
  outcomes = work.outcomes ++ record { id = tx.id; outcome = found } ∷ [];
  committed = join_committed work.committed (length work.outcomes + 1) ran found;
}

abbrev pub sealed_as : Block → Work → SealedBlock
sealed_as block work = record { number = block.number; time = block.time; outcomes = work.outcomes; committed = work.committed }

-- a block on the results of the blocks before: its transactions are decided in order, each by its run on the tables of its height
abbrev pub seal : App → List SealedBlock → Block → SealedBlock
seal app chain block = sealed_as block (list.fold (λ work tx. work_by app chain block.number work tx (run_at app chain tx)) no_work block.txs)

-- the results of a chain of blocks, each on the results of those before
abbrev pub fold : App → List Block → List SealedBlock
fold app blocks = list.fold (λ chain block. chain ++ seal app chain block ∷ []) [] blocks

-- ---- the same from any point on, as proofs by induction have it

-- by its run on the tables of its height
abbrev pub work_on : App → List SealedBlock → ℕ → Work → Tx → Work
work_on app chain number work tx = work_by app chain number work tx (run_at app chain tx)

-- some transactions of a block are decided in order
abbrev pub work_through : App → List SealedBlock → ℕ → Work → List Tx → Work
work_through app chain number work txs = list.fold (work_on app chain number) work txs

-- blocks in order, on the results of those before
abbrev pub fold_from : App → List SealedBlock → List Block → List SealedBlock
fold_from app chain blocks = list.fold (λ chain block. chain ++ seal app chain block ∷ []) chain blocks

-- ---- what a node reports

-- before the first block
abbrev pub no_digest : List ℕ
no_digest = replicate 32 0

-- what is reported of a block, with a digest
abbrev pub result_with : List TableDef → SealedBlock → List ℕ → BlockResult
result_with tables block digest = record {
  number = block.number;
  time = block.time;
  outcomes = block.outcomes;
  order = serial_order tables block.committed;
  writes = placed_of block.committed;
  digest = digest;
}

-- the result of a block, where the block before has a digest; the block's own digest has no part in its code
abbrev pub block_result : List TableDef → List ℕ → SealedBlock → BlockResult
block_result tables previous block = result_with tables block (digest_of previous (result_with tables block no_digest))

-- the results of blocks, each with the digest of the one before
abbrev pub results_from : List TableDef → List ℕ → List SealedBlock → List BlockResult
results_from tables previous [] = []
results_from tables previous (block ∷ rest) = block_result tables previous block ∷ results_from tables (block_result tables previous block).digest rest

-- the results of a chain of blocks
abbrev pub results_of : List TableDef → List SealedBlock → List BlockResult
results_of tables chain = results_from tables no_digest chain

-- the digest of the last of some results, where the block before them has one
abbrev pub digest_after : List ℕ → List BlockResult → List ℕ
digest_after previous [] = previous
digest_after previous (block ∷ rest) = digest_after block.digest rest

-- the digest of the last block of a chain, or the one before the first block
abbrev pub chain_digest : List TableDef → List SealedBlock → List ℕ
chain_digest tables chain = digest_after no_digest (results_of tables chain)

-- the rows of a table in key order
abbrev pub table_rows : Tables → ℕ → TableRows
table_rows tables number = record { table = number; rows = map (λ entry. entry.1.row) (filter (λ entry. number == entry.0.0) (finite.entries tables)) }

-- the rows of some declared tables, of which the first has a number
abbrev pub all_rows : Tables → ℕ → List TableDef → List TableRows
all_rows tables number [] = []
all_rows tables number (declared ∷ rest) = table_rows tables number ∷ all_rows tables (number + 1) rest

-- the report of a node of one thread on a chain of blocks: the result of each, and the tables after the last
abbrev pub node_result : App → List Block → NodeResult
node_result app blocks = record {
  blocks = results_of (tables_of app) (fold app blocks);
  tables = all_rows (snapshot (length (fold app blocks)) (fold app blocks)) 0 (tables_of app);
  journal = [];
}
