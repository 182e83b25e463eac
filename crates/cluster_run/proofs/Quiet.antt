-- Steps that leave the blocks as they are.
use Rattle.std.proofs.Common.{Bool, List, None, Option, Some, [], ap, append-nil, cond, false, refl, true, ◌+◌, ◌++◌, ◌∙◌, ◌≡◌, ◌∷◌, ℕ}
use Rattle.cluster_run.proofs.Turning.{at, at_work, event, step_delivers, step_state}
use Rattle.cluster_run.specs.Standing.{IsTrue, SameBlocks, delivered_by}
use Rattle.node_core.specs.Core.{Core, entries_for}
use Rattle.node_model.specs.Events.{commit_next, decide_due, settled_in}
use Rattle.node_model.specs.Journals.{delivered}
use Rattle.node_model.specs.Steps as steps
use Rattle.node_model.specs.Steps.{Answer, Ask, Reply, ToArrive, ToClaim, ToCommit, ToDeliver, ToFinish, ToRead, ToRelease, ToSeal, chosen, claims, commits, commits_due, finishes, is_ready, noted, reads, reads_unless, reply}
use Rattle.node_model.specs.World.{BlockInWork, Job, World, decided, due, job_at}
use Rattle.node_model.specs.declared.journal.Entry.{Entry}
use Rattle.node_model.specs.declared.journal.Event.TheVariants.{Commit}
use Rattle.node_model.specs.declared.journal.Event.{Event}
use Rattle.node_shared.specs.Turn.{IsTurn}
use Rattle.proc_syntax.specs.declared.call.Block.{Block}
use Rattle.proc_syntax.specs.declared.call.Tx.{Tx}
use Rattle.proc_syntax.specs.declared.tree.App.{App}
use Rattle.rel_base.specs.declared.storied.Storied.{Ghosts}
use Rattle.schedule_laws.specs.Scheduled.{block_in}
use Rattle.turn_lock.specs.Passes.{IsSamePass, pass_base, pass_number}
use Rattle.turn_lock.specs.declared.pass.Pass.{Pass}

-- asks that neither bring nor seal a block
abbrev pub IsQuiet : Ask → Type 0
IsQuiet (ToArrive tx) = ⊥
IsQuiet (ToClaim pick) = Unit {0}
IsQuiet (ToRead number) = Unit {0}
IsQuiet (ToFinish number) = Unit {0}
IsQuiet (ToRelease number) = Unit {0}
IsQuiet (ToDeliver block) = ⊥
IsQuiet ToCommit = Unit {0}
IsQuiet ToSeal = ⊥

block_of_due : (app : App) (w : World) (work : BlockInWork) (t : Option Tx) → (decide_due app w.sealed w.jobs work t).block ≡ work.block
block_of_due app w work None = refl
block_of_due app w work (Some tx) = refl

block_in_next : (app : App) (w : World) (o : Option BlockInWork) → block_in (commit_next app w.sealed w.jobs o) ≡ block_in o
block_in_next app w None = refl
block_in_next app w (Some work) = ap (λ (block : Block). block ∷ []) (block_of_due app w work (due work))

-- what an event leaves as it is
record Leaves (app : App) (w : World) (actor : ℕ) (o : Option Event) : Type 0 where
  pub nothing : delivered (entries_for actor o) ≡ []
  pub same : block_in (noted app w actor o).work ≡ block_in w.work

module _ (app : App) (w : World) (actor : ℕ) where
  none : Leaves app w actor None
  none = record { nothing = refl; same = refl }

  leaves : (ask : Ask) → IsQuiet ask → Leaves app w actor (reply app w ask).1
  leaves (ToArrive tx) quiet = absurd quiet
  leaves (ToClaim pick) quiet = by (chosen app w pick) where
    by : (o : Option ℕ) → Leaves app w actor (claims o).1
    by None = none
    by (Some number) = record { nothing = refl; same = refl }
  leaves (ToRead number) quiet = by (job_at w.jobs number) where
    by_settled : (job : Job) (o : Option ℕ) → Leaves app w actor (reads_unless app w number job o).1
    by_settled job None = record { nothing = refl; same = refl }
    by_settled job (Some block) = none

    by : (o : Option Job) → Leaves app w actor (reads app w number o).1
    by None = none
    by (Some job) = by_settled job (settled_in job.tx.id w.sealed)
  leaves (ToFinish number) quiet = by (job_at w.jobs number) where
    by : (o : Option Job) → Leaves app w actor (finishes w number o).1
    by None = none
    by (Some job) = record { nothing = refl; same = refl }
  leaves (ToRelease number) quiet = record { nothing = refl; same = refl }
  leaves (ToDeliver block) quiet = absurd quiet
  leaves ToCommit quiet = by w.work where
    by_ready : (work : BlockInWork) (b : Bool) (answer : Answer) → Leaves app w actor (cond {A = Reply} b (steps.Decided (decided work + 1), Some (Commit (decided work + 1))) (answer, None)).1
    by_ready work true answer = record { nothing = refl; same = block_in_next app w w.work }
    by_ready work false answer = none

    by_due : (work : BlockInWork) (t : Option Tx) → Leaves app w actor (commits_due app w work t).1
    by_due work None = none
    by_due work (Some tx) = by_ready work (is_ready app w work tx) _

    by : (o : Option BlockInWork) → Leaves app w actor (commits app w o).1
    by None = none
    by (Some work) = by_due work (due work)
  leaves ToSeal quiet = absurd quiet

module _ {ghosts : Ghosts Core App Entry} (old new : Pass Core App Entry ghosts) (same : IsSamePass old new) (ask : Ask) (answer : Answer) (was : IsTrue old) (turn : IsTurn old new ask answer) where
  pub step_blocks : IsQuiet ask → pass_number old ≡ 0 → SameBlocks old new
  step_blocks quiet zero =
      let l = leaves (pass_base old) (at old new same ask answer was turn) (pass_number old) ask quiet in
      record {
        delivered_same = step_delivers old new same ask answer was turn (event old new same ask answer was turn) refl ∙ (ap (λ (blocks : List Block). delivered_by old ++ blocks) l.nothing ∙ append-nil (delivered_by old));
        in_work_same = ap (λ (w : World). block_in w.work) (step_state old new same ask answer was turn (event old new same ask answer was turn) refl)
            ∙ (l.same ∙ ap block_in (at_work old new same ask answer was turn zero));
      }
