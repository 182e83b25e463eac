-- What a schedule comes to. Each line is a step that one actor takes in the state that the lines before it leave; a line that its actor may not
-- take there changes nothing.
-- (The steps are those of a node: `node_model/specs/Steps.antt`.)
use Rattle.node_model.specs.Events.{next_read}
use Rattle.node_model.specs.Fold.{all_rows, results_of}
use Rattle.node_model.specs.History.{snapshot}
use Rattle.node_model.specs.Steps.{Ask, Shared, ToArrive, ToClaim, ToCommit, ToDeliver, ToFinish, ToRead, ToRelease, ToSeal, step}
use Rattle.node_model.specs.World.{Job, World, empty, is_held_by, job_at}
use Rattle.node_model.specs.declared.journal.Pick.{Pick}
use Rattle.node_model.specs.declared.result.NodeResult.{NodeResult}
use Rattle.proc_syntax.specs.Declaring.{tables_of}
use Rattle.proc_syntax.specs.declared.call.Block.{Block}
use Rattle.proc_syntax.specs.declared.call.Tx.{Tx}
use Rattle.proc_syntax.specs.declared.tree.App.{App}
use Rattle.schedule_sim.specs.declared.step.Step.TheVariants as line
use Rattle.schedule_sim.specs.declared.step.Step.{Step}
use Rattle.std.specs.List.{position_from}
use Rattle.std.specs.Option.{is_none, is_some, option_and_then, option_map}
use Rattle.std.specs.Prelude.{Bool, Err, List, None, Ok, Option, Result, Some, [], cond, length, slice_get, suc, true, zero, ◌==◌, ◌||◌, ◌∷◌, ℕ}
use denote.RawPtr.{null_ptr}

-- what a schedule runs over: an application, the blocks of the chain, and what arrives
pub record Given : Type 0 where
  pub app : App
  pub blocks : List Block
  pub arrivals : List Tx

-- a value that is shared; where in memory it stands does not matter
abbrev pub shared : {X : Type 0} → X → Shared X
shared value = record { ptr = null_ptr; value = value }

-- ---- what a line asks of a node, if its actor may

-- actor 17 brings what arrives, and actor 0 has to do with blocks
abbrev pub made_by : Step → ℕ
made_by (line.Arrive number) = 17
made_by (line.Claim actor pick) = actor
made_by (line.Read actor) = actor
made_by (line.Finish actor) = actor
made_by (line.Release actor) = actor
made_by line.Deliver = 0
made_by line.Commit = 0
made_by line.Seal = 0

-- the number of the job that an actor holds
abbrev pub held_by : ℕ → World → Option ℕ
held_by actor w = position_from (λ job. is_held_by actor job.status) 1 w.jobs

-- the run of a job was cut short, or has no next read
abbrev pub is_at_end : App → World → Option Job → Bool
is_at_end app w None = true
is_at_end app w (Some job) = job.recorded.cut || is_none (next_read app w.sealed job)

-- the arrival of a number, from 1
abbrev pub arrival : List Tx → ℕ → Option Tx
arrival arrivals zero = None
arrival arrivals (suc place) = slice_get arrivals place

abbrev pub to_arrive : List Tx → ℕ → Option Ask
to_arrive arrivals number = option_map (λ tx. ToArrive (shared tx)) (arrival arrivals number)

-- an actor that holds no job may claim one
abbrev pub to_claim : World → ℕ → Pick → Option Ask
to_claim w actor pick = cond (is_some (held_by actor w)) None (Some (ToClaim pick))

-- the job that it holds may read where its run is not at its end, and be finished where it is
abbrev pub to_read : App → World → ℕ → Option Ask
to_read app w actor = option_and_then (λ number. cond (is_at_end app w (job_at w.jobs number)) None (Some (ToRead number))) (held_by actor w)

abbrev pub to_finish : App → World → ℕ → Option Ask
to_finish app w actor = option_and_then (λ number. cond (is_at_end app w (job_at w.jobs number)) (Some (ToFinish number)) None) (held_by actor w)

abbrev pub to_release : World → ℕ → Option Ask
to_release w actor = option_map ToRelease (held_by actor w)

-- the block after the sealed ones; where that is in work already, its delivery changes nothing
abbrev pub to_deliver : List Block → World → Option Ask
to_deliver blocks w = option_map (λ block. ToDeliver (shared block)) (slice_get blocks (length w.sealed))

abbrev pub asked_by : Given → World → Step → Option Ask
asked_by given w (line.Arrive number) = to_arrive given.arrivals number
asked_by given w (line.Claim actor pick) = to_claim w actor pick
asked_by given w (line.Read actor) = to_read given.app w actor
asked_by given w (line.Finish actor) = to_finish given.app w actor
asked_by given w (line.Release actor) = to_release w actor
asked_by given w line.Deliver = to_deliver given.blocks w
asked_by given w line.Commit = Some ToCommit
asked_by given w line.Seal = Some ToSeal

-- ---- the fold of the lines

-- the state after an actor asked something, if anything
abbrev pub after_ask : App → World → ℕ → Option Ask → World
after_ask app w actor None = w
after_ask app w actor (Some ask) = (step app w actor ask).1

abbrev pub after_line : Given → World → Step → World
after_line given w line = after_ask given.app w (made_by line) (asked_by given w line)

abbrev pub after_lines : Given → World → List Step → World
after_lines given w [] = w
after_lines given w (line ∷ lines) = after_lines given (after_line given w line) lines

-- the state that a schedule comes to
abbrev pub scheduled : Given → List Step → World
scheduled given lines = after_lines given empty lines

-- ---- what is reported of it

-- the results of the sealed blocks, the tables after the last of them, and the journal
abbrev pub result_told : App → World → NodeResult
result_told app w = record {
  blocks = results_of (tables_of app) w.sealed;
  tables = all_rows (snapshot (length w.sealed) w.sealed) 0 (tables_of app);
  journal = w.journal;
}

-- where all blocks are sealed; else how many are
abbrev pub if_all : App → List Block → World → Result NodeResult ℕ
if_all app blocks w = cond (length w.sealed == length blocks) (Ok (result_told app w)) (Err (length w.sealed))

-- what a node tells that is driven by a schedule, or how many blocks this seals, where it does not seal all
abbrev pub simulated : Given → List Step → Result NodeResult ℕ
simulated given lines = if_all given.app given.blocks (scheduled given lines)
