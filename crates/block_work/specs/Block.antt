-- What a block in work is, and what it keeps of its committed transactions.
use Rattle.block_digest.specs.Codable.{HasFewKey}
use Rattle.conflict_rules.specs.Marking.{HasRoomFor, IsDirectoryOf}
use Rattle.block_work.specs.Causes.{AreOwnEdges, RunFits}
use Rattle.block_work.specs.declared.block.BlockInWork.{BlockInWork}
use Rattle.node_model.specs.Edges.{edge_at}
use Rattle.node_model.specs.Fold.{Work, join_committed}
use Rattle.node_model.specs.History.{SealedBlock}
use Rattle.node_model.specs.declared.outcome.Outcome.{Outcome}
use Rattle.node_model.specs.declared.result.Committed.{Committed}
use Rattle.proc_syntax.specs.declared.run.Ran.{Ran}
use Rattle.rel_base.specs.Among.{WriteFitsIn}
use Rattle.rel_base.specs.declared.schema.TableDef.{TableDef}
use Rattle.row_sets.specs.Versions.{are_rising}
use Rattle.rw_graph.specs.Fitting.{ReadsFit}
use Rattle.rw_graph.specs.Graph.{HasRoomAt, has_edge, positions_of}
use Rattle.rw_graph.specs.Laws.{places}
use Rattle.rw_graph.specs.declared.edge_set.EdgeSet.{EdgeSet}
use Rattle.rw_graph.specs.declared.edges.Edges.{Edges}
use Rattle.std.specs.Prelude.{All, IsTrue, List, [], length, vec_capacity, vec_len, ◌+◌, ◌++◌, ◌<◌, ◌≡◌, ◌≤◌, ◌∷◌, ℕ}
use Rattle.proc_syntax.specs.Limits.{most_steps}

-- ---- what it stands for

-- the outcomes so far and the committed transactions
abbrev pub work_of : BlockInWork → Work
work_of work = record { outcomes = work.outcomes.items; committed = work.committed.items }

-- the block, where all of its transactions are decided
abbrev pub sealed_of : BlockInWork → SealedBlock
sealed_of work = record { number = work.number; time = work.time; outcomes = work.outcomes.items; committed = work.committed.items }

-- a transaction more, with its outcome, and with its run among the committed ones where it commits
abbrev pub work_with : Work → List ℕ → Ran → Outcome → Work
work_with work id ran found = record {
  outcomes = work.outcomes ++ record { id = id; outcome = found } ∷ [];
  committed = join_committed work.committed (length work.outcomes + 1) ran found;
}

-- it stands for the same block with the same outcomes and committed transactions
pub record IsSameWork (old new : BlockInWork) : Type 0 where
  pub number : new.number ≡ old.number
  pub time : new.time ≡ old.time
  pub outcomes : new.outcomes.items ≡ old.outcomes.items
  pub committed : new.committed.items ≡ old.committed.items

-- ---- what it keeps

-- the writes of committed transactions fit their tables and stand in order, and the positions rise from above one number up to another
abbrev pub StandInOrder : List TableDef → ℕ → List Committed → ℕ → Type 0
StandInOrder tables low [] high = low ≤ high
StandInOrder tables low (done ∷ rest) high =
    (low < done.pos) × All (WriteFitsIn tables) done.writes × IsTrue (are_rising done.writes) × StandInOrder tables done.pos rest high

-- a set has the positions of committed transactions and the edges between these
pub record KeepsEdges (tables : List TableDef) (committed : List Committed) (set : EdgeSet) : Type 0 where
  pub positions : positions_of set ≡ places committed
  pub edges : (from to : ℕ) → has_edge set from to ≡ edge_at tables committed from to

-- what it keeps agrees: the committed transactions stand in order below the next position and fit the tables, and the directory and the edges are theirs
pub record IsConsistent (tables : List TableDef) (work : BlockInWork) : Type 0 where
  pub committed : StandInOrder tables 0 work.committed.items (length work.outcomes.items)
  pub reads : All (λ done. ReadsFit tables done.reads) work.committed.items
  pub few : All (λ done. length done.writes ≤ most_steps) work.committed.items
  pub keys : All (λ told. HasFewKey told.outcome) work.outcomes.items
  pub directory : IsDirectoryOf work.committed.items work.directory
  pub edges : KeepsEdges tables work.committed.items work.edges

-- there is room for one more transaction
pub record HasRoomForOne (work : BlockInWork) : Type 0 where
  pub outcomes : vec_len work.outcomes < vec_capacity work.outcomes
  pub committed : vec_len work.committed < vec_capacity work.committed
  pub directory : HasRoomFor (length work.committed.items) work.directory
  pub edges : HasRoomAt work.edges (length work.outcomes.items + 1)

-- the next transaction may commit with a run and some edges
pub record CanCommitWith (tables : List TableDef) (work : BlockInWork) (ran : Ran) (edges : Edges) : Type 0 where
  pub consistent : IsConsistent tables work
  pub fits : RunFits tables ran
  pub own : AreOwnEdges tables work.committed.items ran edges
