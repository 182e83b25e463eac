-- Replay: transactions of a block run again, one after another, each on the tables that those before it left.
use Rattle.node_model.specs.Decide.{fault_outcome, run_at}
use Rattle.node_model.specs.History.{SealedBlock, time_at}
use Rattle.node_model.specs.declared.result.Committed.{Committed}
use Rattle.proc_syntax.specs.Run.{no_run, run}
use Rattle.proc_syntax.specs.declared.call.Block.{Block}
use Rattle.proc_syntax.specs.declared.call.Tx.{Tx}
use Rattle.proc_syntax.specs.declared.run.Ran.{Ran}
use Rattle.proc_syntax.specs.declared.tree.App.{App}
use Rattle.rel_base.specs.Tables.{Stamped, Tables, set_stamped}
use Rattle.rel_base.specs.declared.access.Write.{Write}
use Rattle.std.specs.Prelude.{List, None, Option, Some, map, slice_get, suc, zero, [], ◌≡◌, ◌∷◌, ℕ}

-- what a replay makes: a run for each position, and the tables at the end
pub record Replayed : Type 0 where
  pub runs : List Ran
  pub tables : Tables

-- the transaction at a position of a block, from 1
abbrev pub tx_at : List Tx → ℕ → Option Tx
tx_at txs zero = None
tx_at txs (suc index) = slice_get txs index

-- the run of a transaction on tables, at the time of the block of its height; where there is no transaction, a run that does not begin
abbrev pub run_on : App → List SealedBlock → Tables → Option Tx → Ran
run_on app chain tables None = no_run
run_on app chain tables (Some tx) = run app tx (time_at tx.height chain) tables

-- net writes, each with the number of a block and a position
abbrev pub stamps : ℕ → ℕ → List Write → List Stamped
stamps number pos writes = map (λ write. (number, record { pos = pos; write = write })) writes

-- one run more before
abbrev pub after_run : Ran → Replayed → Replayed
after_run ran rest = record { runs = ran ∷ rest.runs; tables = rest.tables }

-- the transactions at some positions of a block run one after another, and the net writes of each are put before the next runs
abbrev pub replay : App → List SealedBlock → Block → Tables → List ℕ → Replayed
replay app chain block tables [] = record { runs = []; tables = tables }
replay app chain block tables (pos ∷ rest) =
    after_run (run_on app chain tables (tx_at block.txs pos))
    (replay app chain block (set_stamped tables (stamps block.number pos (run_on app chain tables (tx_at block.txs pos)).writes)) rest)

-- the run of a transaction on the tables of its own height
abbrev pub own_run : App → List SealedBlock → Option Tx → Ran
own_run app chain None = no_run
own_run app chain (Some tx) = run_at app chain tx

-- the run that the transaction at a committed one's position made on the tables of its own height
abbrev pub committed_run : App → List SealedBlock → Block → Committed → Ran
committed_run app chain block done = own_run app chain (tx_at block.txs done.pos)

-- what is recorded of a committed transaction is what a run made, and it did not end in a fault
pub record IsRecorded (ran : Ran) (done : Committed) : Type 0 where
  pub reads : ran.reads ≡ done.reads
  pub writes : ran.writes ≡ done.writes
  pub no_fault : fault_outcome ran.ending ≡ None
