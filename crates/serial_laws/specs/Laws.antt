-- The laws, each the contract of a function of the module `laws`.
use Rattle.node_model.specs.Decide.{run_at, writes_since}
use Rattle.node_model.specs.Edges.{edge, edge_at}
use Rattle.node_model.specs.Fold.{fold, results_of, seal}
use Rattle.node_model.specs.History.{snapshot, time_at}
use Rattle.node_model.specs.Order.{IsSerialOrder, order, serial_order}
use Rattle.node_model.specs.declared.result.Committed.{Committed}
use Rattle.proc_check.specs.Apps.{first_fault}
use Rattle.proc_syntax.specs.Declaring.{tables_of}
use Rattle.proc_syntax.specs.Run.{run}
use Rattle.proc_syntax.specs.declared.call.Block.{Block}
use Rattle.proc_syntax.specs.declared.call.Tx.{Tx}
use Rattle.proc_syntax.specs.declared.run.Ending.TheVariants.{Good}
use Rattle.proc_syntax.specs.declared.tree.App.{App}
use Rattle.rel_base.specs.Late.{late}
use Rattle.rel_base.specs.declared.schema.TableDef.{TableDef}
use Rattle.serial_laws.specs.Chained.{AreNumbered, IsNext}
use Rattle.serial_order.specs.Cycles.{HasNoCycle, HasSources}
use Rattle.serial_laws.specs.Decided.{AreAdmitted}
use Rattle.serial_laws.specs.InOrder.{EachInOrder, RunInOrder}
use Rattle.serial_laws.specs.Replay.{IsRecorded, committed_run, replay}
use Rattle.std.specs.Prelude.{All, AllPairs, Bool, IsPermutation, List, None, map, [], ◌++◌, ◌-◌, ◌<◌, ◌≡◌, ◌∷◌}

-- of admitted transactions, each set that is not empty has one to which no edge comes from the set
abbrev pub SetsHaveSources : Type 0
SetsHaveSources = (exact : Bool) (tables : List TableDef) (committed : List Committed) → AreAdmitted exact tables committed → HasSources (edge tables) committed

-- their edges have no cycle
abbrev pub EdgesHaveNoCycle : Type 0
EdgesHaveNoCycle = (exact : Bool) (tables : List TableDef) (committed : List Committed) → AreAdmitted exact tables committed → HasNoCycle (edge tables) committed

-- the serial order has each of them once, and no edge leads back in it
abbrev pub OrderIsSerial : Type 0
OrderIsSerial = (exact : Bool) (tables : List TableDef) (committed : List Committed) → AreAdmitted exact tables committed → IsSerialOrder (edge tables) committed (order (edge tables) committed)

-- so it lists each of their positions once
abbrev pub PositionsAreListed : Type 0
PositionsAreListed = (exact : Bool) (tables : List TableDef) (committed : List Committed) → AreAdmitted exact tables committed → IsPermutation (map (λ done. done.pos) committed) (serial_order tables committed)

-- the order of the positions, with the edges by position, is the serial order of the transactions
abbrev pub OrderByPosition : Type 0
OrderByPosition = (tables : List TableDef) (committed : List Committed) → AllPairs (λ earlier later. earlier.pos < later.pos) committed
    → order (edge_at tables committed) (map (λ done. done.pos) committed) ≡ serial_order tables committed

-- the transactions that commit in a block are admitted ones
abbrev pub CommittedAreAdmitted : Type 0
CommittedAreAdmitted = (app : App) (blocks : List Block) (block : Block) → IsNext blocks block → AreAdmitted app.exact (tables_of app) (seal app (fold app blocks) block).committed

-- ---- replay

-- a transaction without a late read makes the same run on the tables before its block as on those of its height
abbrev pub RunsStay : Type 0
RunsStay = (app : App) (blocks : List Block) (block : Block) → IsNext blocks block → (tx : Tx)
    → late (tables_of app) (map (λ made. made.read) (run_at app (fold app blocks) tx).reads) (writes_since (fold app blocks) block.number tx) ≡ None
    → run app tx (time_at tx.height (fold app blocks)) (snapshot (block.number - 1) (fold app blocks)) ≡ run_at app (fold app blocks) tx

-- what is recorded of a committed transaction is what its run on the tables of its own height made, and that run met no fault
abbrev pub CommittedAreRecorded : Type 0
CommittedAreRecorded = (app : App) (blocks : List Block) (block : Block) → IsNext blocks block
    → All (λ done. IsRecorded (committed_run app (fold app blocks) block done) done) (seal app (fold app blocks) block).committed

-- where the application is checked, the run ended well
abbrev pub CommittedEndWell : Type 0
CommittedEndWell = (app : App) (blocks : List Block) (block : Block) → IsNext blocks block → first_fault app ≡ None
    → All (λ done. (committed_run app (fold app blocks) block done).ending ≡ Good) (seal app (fold app blocks) block).committed

-- the replay along a list of committed transactions, from the tables before the block, makes the runs with which they committed, and
-- ends in the tables after the block
abbrev pub Replays : App → List Block → Block → List Committed → Type 0
Replays app blocks block list =
    replay app (fold app blocks) block (snapshot (block.number - 1) (fold app blocks)) (map (λ done. done.pos) list)
    ≡ record { runs = map (committed_run app (fold app blocks) block) list; tables = snapshot block.number (fold app (blocks ++ block ∷ [])) }

-- each list that has each committed transaction once, with no edge from a later one to an earlier one, replays
abbrev pub SerialOrdersReplay : Type 0
SerialOrdersReplay = (app : App) (blocks : List Block) (block : Block) → IsNext blocks block
    → (list : List Committed) → IsSerialOrder (edge (tables_of app)) (seal app (fold app blocks) block).committed list → Replays app blocks block list

-- so the serial order of the committed transactions of a block replays
abbrev pub TheOrderReplays : Type 0
TheOrderReplays = (app : App) (blocks : List Block) (block : Block) → IsNext blocks block → Replays app blocks block (order (edge (tables_of app)) (seal app (fold app blocks) block).committed)

-- and it is an order in which they run again
abbrev pub TheOrderRuns : Type 0
TheOrderRuns = (app : App) (blocks : List Block) (block : Block) → IsNext blocks block
    → RunInOrder app blocks block (serial_order (tables_of app) (seal app (fold app blocks) block).committed)

-- of blocks that are numbered from 1, the results that a node tells have such an order for each
abbrev pub ResultsRun : Type 0
ResultsRun = (app : App) (blocks : List Block) → AreNumbered 1 blocks → EachInOrder app blocks (results_of (tables_of app) (fold app blocks))
