-- What a pass tells between two of its turns.
use Rattle.cluster_run.specs.Arrivals.{IsSubsequence, arrived}
use Rattle.node_core.specs.Core.{Core, IsHeld, world_of}
use Rattle.node_core.specs.InHand.{InHand}
use Rattle.node_core.specs.declared.answers.Decided.TheVariants as decided
use Rattle.node_core.specs.declared.answers.Decided.{Decided}
use Rattle.node_model.specs.Events.{is_settled}
use Rattle.node_model.specs.Journals.{IsLegal, delivered}
use Rattle.node_model.specs.Steps.{chosen}
use Rattle.node_model.specs.World.{Done, Dropped, Holds, HoldsNone, Job, World, due, job_at}
use Rattle.node_model.specs.declared.journal.Entry.{Entry}
use Rattle.node_model.specs.declared.journal.Pick.{Pick}
use Rattle.node_shared.specs.Turn.{node_seen}
use Rattle.proc_syntax.specs.declared.call.Block.{Block}
use Rattle.proc_syntax.specs.declared.call.Tx.{Tx}
use Rattle.proc_syntax.specs.declared.tree.App.{App}
use Rattle.rel_base.specs.declared.storied.Storied.{Ghosts}
use Rattle.schedule_laws.specs.Scheduled.{block_in}
use Rattle.schedule_laws.specs.Stable.{entries_by}
use Rattle.std.specs.Option.{option_and_then}
use Rattle.std.specs.Prelude.{Bool, Err, List, None, Ok, Option, Result, Some, [], false, length, true, ◌+◌, ◌<◌, ◌≡◌, ◌≢◌, ◌≤◌, ◌⊎◌, ℕ}
use Rattle.turn_lock.specs.Ledger.{made_by}
use Rattle.turn_lock.specs.Passes.{HoldsNoTurn, IsPassOf, IsSameHolder, IsSamePass, joined, left, mine, pass_base, pass_number, seen}
use Rattle.turn_lock.specs.declared.lock.TurnLock.{TurnLock}
use Rattle.turn_lock.specs.declared.pass.Pass.{Pass}

-- What an actor may have brought, by its entries: it comes of what was handed to the node, in that order, and is nothing but for the actor that comes after the executors.
pub record Brings (executors : ℕ) (handed : List Tx) (actor : ℕ) (entries : List Entry) : Type 0 where
  pub in_order : IsSubsequence (arrived entries) handed
  pub others : actor ≢ executors + 1 → arrived entries ≡ []

-- an actor holds no job but one
abbrev pub HoldsOnly : World → ℕ → ℕ → Type 0
HoldsOnly w actor one = (number : ℕ) (job : Job) → Holds w.jobs actor number job → number ≡ one

-- a job in hand has made one read more, or has found that its id is settled
abbrev pub IsFurther : (old new : InHand) → Type 0
IsFurther old new = (length new.told.fed ≡ length old.told.fed + 1) ⊎ ((old.gone ≡ false) × (new.gone ≡ true))

module _ {ghosts : Ghosts Core App Entry} where
  -- the state of the node as a pass has seen it
  abbrev pub state_seen : Pass Core App Entry ghosts → World
  state_seen pass = world_of (node_seen pass)

  -- ---- what it has in hand

  -- what it has seen is a journal that steps can make, its own entries there are those that it made, and none of them is an arrival
  pub record IsTrue (pass : Pass Core App Entry ghosts) : Type 0 where
    pub legal : IsLegal (pass_base pass) (seen pass)
    pub own : entries_by (pass_number pass) (seen pass) ≡ mine pass
    pub brought : arrived (mine pass) ≡ []

  -- its actor holds no job
  pub record HasNone (pass : Pass Core App Entry ghosts) : Type 0 where
    pub true_to : IsTrue pass
    pub none : HoldsNone (state_seen pass) (pass_number pass)

  -- its actor holds this job, and no other; where the last read of the job found that its id is settled, it is so
  pub record HasWork (pass : Pass Core App Entry ghosts) (work : InHand) : Type 0 where
    pub true_to : IsTrue pass
    pub actor : work.actor ≡ pass_number pass
    pub held : IsHeld (node_seen pass) work
    pub only : HoldsOnly (state_seen pass) (pass_number pass) work.job
    pub settled : work.gone ≡ true → is_settled work.told.tx.id (state_seen pass).sealed ≡ true

  abbrev pub Has : Pass Core App Entry ghosts → Option InHand → Type 0
  Has pass None = HasNone pass
  Has pass (Some work) = HasWork pass work

  -- ---- between two turns

  -- a pass of this lock, which has no turn and this in hand
  pub record Stands (turns : TurnLock Core App Entry) (pass : Pass Core App Entry ghosts) (work : Option InHand) : Type 0 where
    pub lock : IsPassOf turns pass
    pub no_turn : HoldsNoTurn pass
    pub hand : Has pass work

  -- a pass that stays the same and keeps its entries, and has no turn and this in hand after its turns
  pub record Comes (old new : Pass Core App Entry ghosts) (work : Option InHand) : Type 0 where
    pub same : IsSamePass old new
    pub no_turn : HoldsNoTurn new
    pub hand : Has new work
    pub entries : length (mine old) ≤ length (mine new)

  -- it has made entries of its own since
  abbrev pub HasMade : Pass Core App Entry ghosts → Pass Core App Entry ghosts → Type 0
  HasMade old new = length (mine old) < length (mine new)

  -- ---- what becomes of a job

  -- the job of a number is done or dropped
  pub record IsOver (pass : Pass Core App Entry ghosts) (number : ℕ) : Type 0 where
    pub job : Job
    pub stands : job_at (state_seen pass).jobs number ≡ Some job
    pub over : (job.status ≡ Done) ⊎ (job.status ≡ Dropped)

  -- what a step leaves of a job: it is over, or it goes on and is further than it was
  abbrev pub Leaves : Pass Core App Entry ghosts → InHand → Option InHand → Type 0
  Leaves pass old None = IsOver pass old.job
  Leaves pass old (Some new) = (new.job ≡ old.job) × IsFurther old new

  -- there is no job to take
  abbrev pub HasNoJob : Pass Core App Entry ghosts → Pick → Type 0
  HasNoJob pass pick = chosen (pass_base pass) (state_seen pass) pick ≡ None

  -- what a claim takes: a job, by an entry of its own, or there is none to take
  abbrev pub Takes : (old new : Pass Core App Entry ghosts) → Pick → Option InHand → Type 0
  Takes old new pick None = HasNoJob new pick
  Takes old new pick (Some work) = HasMade old new

  -- whether a job was taken and run: it made entries and one is over, or there is none to take
  abbrev pub Runs : (old new : Pass Core App Entry ghosts) → Pick → Bool → Type 0
  Runs old new pick true = HasMade old new × ((number : ℕ) × IsOver new number)
  Runs old new pick false = HasNoJob new pick

  -- why to look again: it made entries, or a claim found no job to take
  abbrev pub MayLookAgain : (old new : Pass Core App Entry ghosts) → Type 0
  MayLookAgain old new = HasMade old new ⊎ ((pick : Pick) × HasNoJob new pick)

  -- ---- the blocks

  -- the blocks that it has delivered
  abbrev pub delivered_by : Pass Core App Entry ghosts → List Block
  delivered_by pass = delivered (mine pass)

  -- the block in work, if there is one
  abbrev pub in_work : Pass Core App Entry ghosts → List Block
  in_work pass = block_in (state_seen pass).work

  -- each transaction of the block in work is decided
  abbrev pub AllDecided : Pass Core App Entry ghosts → Type 0
  AllDecided pass = option_and_then due (state_seen pass).work ≡ None

  -- what the answer to a commit says of the block in work
  abbrev pub Says : Decided → (old new : Pass Core App Entry ghosts) → Type 0
  Says (decided.Outcome pos) old new = HasMade old new
  Says (decided.NotReady pos holder) old new = Unit {0}
  Says (decided.AllDecided number) old new = AllDecided new
  Says (decided.NoBlock sealed) old new = AllDecided new

  -- what the answer to a look at the block in work says, whether all of it is decided
  abbrev pub Looks : Bool → (old new : Pass Core App Entry ghosts) → Type 0
  Looks true old new = AllDecided new
  Looks false old new = MayLookAgain old new

  -- the same blocks were delivered, and the same one is in work
  pub record SameBlocks (old new : Pass Core App Entry ghosts) : Type 0 where
    pub delivered_same : delivered_by new ≡ delivered_by old
    pub in_work_same : in_work new ≡ in_work old

  -- passes are split off or joined: the pass stays that of its actor, which holds no job, and keeps its blocks
  pub record KeepsBlocks (old new : Pass Core App Entry ghosts) : Type 0 where
    pub same : IsSameHolder old new
    pub no_turn : HoldsNoTurn new
    pub hand : HasNone new
    pub blocks : SameBlocks old new

  -- each pass that was joined has brought no more than its actor may
  abbrev pub AllBring : (executors : ℕ) → List Tx → Pass Core App Entry ghosts → Type 0
  AllBring executors handed pass = (actor : ℕ) → Brings executors handed actor (made_by actor (joined pass))

  -- the processor's pass, once no other is left, after it has processed these blocks of a node of this application
  pub record HasProcessed (turns : TurnLock Core App Entry) (app : App) (blocks : List Block) (pass : Pass Core App Entry ghosts) : Type 0 where
    pub stands : Stands turns pass None
    pub processor : pass_number pass ≡ 0
    pub alone : left pass ≡ 0
    pub base : pass_base pass ≡ app
    pub rests : in_work pass ≡ []
    pub delivers : delivered_by pass ≡ blocks

-- the job that is left after a step of it, if it goes on: none where memory ran out
abbrev pub left_of : {E : Type 0} → Result (Option InHand) E → Option InHand
left_of (Ok work) = work
left_of (Err refused) = None
