-- What a node keeps of the state that its journal comes to.
use Rattle.block_work.specs.Block.{IsConsistent, work_of}
use Rattle.block_work.specs.Causes.{RunFits}
use Rattle.block_work.specs.Chain.{HoldsChain, StoreFits}
use Rattle.block_work.specs.Ids.{HasFirstPlaces}
use Rattle.block_work.specs.declared.ids.IdIndex.{IdIndex}
use Rattle.node_core.specs.declared.jobs.Record as code
use Rattle.node_core.specs.declared.jobs.JobRow.{JobRow}
use Rattle.node_core.specs.declared.jobs.Stage.TheVariants as stage
use Rattle.node_core.specs.declared.jobs.Stage.{Stage}
use Rattle.node_core.specs.declared.delivered_block.DeliveredBlock.{DeliveredBlock}
use Rattle.node_model.specs.History.{ids_told}
use Rattle.node_model.specs.Journals.{IsLegal, world}
use Rattle.node_model.specs.World as model
use Rattle.node_model.specs.World.{Job, World}
use Rattle.node_model.specs.declared.journal.Entry.{Entry}
use Rattle.node_model.specs.declared.result.BlockResult.{BlockResult}
use Rattle.node_model.specs.declared.result.Told.{Told}
use Rattle.proc_syntax.specs.Declaring.{tables_of}
use Rattle.proc_syntax.specs.declared.tree.App.{App}
use Rattle.rel_base.specs.Tables.{Stamped}
use Rattle.rel_base.specs.declared.access.Place.{Place}
use Rattle.rel_base.specs.declared.schema.TableDef.{TableDef}
use Rattle.std.specs.List.{list_any}
use Rattle.std.specs.Option.{option_map}
use Rattle.std.specs.Prelude.{IfSome, List, None, Option, Some, [], cond, nat_le, true, ◌≡◌, ◌∷◌, ℕ}
use Rattle.std.specs.Str.{bytes_eq}

-- ---- jobs

abbrev pub record_of : code.Record → model.Record
record_of recorded = record { ran = recorded.ran; cut = recorded.cut }

-- A stage is that of a job, on tables and where some ids were decided in the block in work. What is recorded of a done job stands in the
-- table until its transaction is decided.
abbrev pub IsStageOf : List TableDef → List (List ℕ) → Stage → Job → Type 0
IsStageOf tables told stage.Waiting job = job.status ≡ model.Waiting
IsStageOf tables told (stage.Held actor) job = job.status ≡ model.Held actor
IsStageOf tables told (stage.Done recorded) job = (job.status ≡ model.Done) × (record_of recorded ≡ job.recorded) × RunFits tables recorded.ran
IsStageOf tables told stage.Taken job = (job.status ≡ model.Done) × (list_any (bytes_eq job.tx.id) told ≡ true)
IsStageOf tables told stage.Dropped job = job.status ≡ model.Dropped

pub record IsRowOf (tables : List TableDef) (told : List (List ℕ)) (row : JobRow) (job : Job) : Type 0 where
  pub tx : row.tx.value ≡ job.tx
  pub stage : IsStageOf tables told row.stage job

-- rows are those of jobs, in order
abbrev pub AreRowsOf : List TableDef → List (List ℕ) → List JobRow → List Job → Type 0
AreRowsOf tables told [] [] = Unit {0}
AreRowsOf tables told [] (job ∷ jobs) = ⊥
AreRowsOf tables told (row ∷ rows) [] = ⊥
AreRowsOf tables told (row ∷ rows) (job ∷ jobs) = IsRowOf tables told row job × AreRowsOf tables told rows jobs

-- ---- the block in work

abbrev pub shown_work : DeliveredBlock → model.BlockInWork
shown_work working = record { block = working.block.value; done = work_of working.done }

abbrev pub number_of_work : Option DeliveredBlock → ℕ
number_of_work None = 0
number_of_work (Some working) = working.done.number

-- the outcomes of its first transactions
abbrev pub outcomes_of : Option DeliveredBlock → List Told
outcomes_of None = []
outcomes_of (Some working) = working.done.outcomes.items

-- the ids of these
abbrev pub told_in : Option DeliveredBlock → List (List ℕ)
told_in work = ids_told (outcomes_of work)

pub record IsWorkingOn (tables : List TableDef) (working : DeliveredBlock) : Type 0 where
  pub number : working.done.number ≡ working.block.value.number
  pub time : working.done.time ≡ working.block.value.time
  pub consistent : IsConsistent tables working.done

-- ---- ids

-- the number of the block of a place, where that is not above a height
abbrev pub up_to : ℕ → Option Place → Option ℕ
up_to height None = None
up_to height (Some place) = cond (nat_le place.block height) (Some place.block) None

-- ---- all

-- the parts of a node
pub record Kept : Type 0 where
  pub app : App
  pub tables : List TableDef
  pub history : List Stamped
  pub results : List BlockResult
  pub ids : IdIndex
  pub work : Option DeliveredBlock
  pub rows : List JobRow
  pub journal : List Entry

abbrev pub world_in : Kept → World
world_in kept = world kept.app kept.journal

-- they are those of the state of a legal journal
pub record IsNode (kept : Kept) : Type 0 where
  pub legal : IsLegal kept.app kept.journal
  pub sound : StoreFits kept.app kept.tables kept.history kept.results
  pub holds : HoldsChain (tables_of kept.app) (world_in kept).sealed kept.history kept.results
  pub ids : HasFirstPlaces kept.ids (world_in kept).sealed (number_of_work kept.work) (outcomes_of kept.work)
  pub work : option_map shown_work kept.work ≡ (world_in kept).work
  pub working : IfSome kept.work (IsWorkingOn (tables_of kept.app))
  pub rows : AreRowsOf (tables_of kept.app) (told_in kept.work) kept.rows (world_in kept).jobs
