-- What is reported of a schedule that seals all blocks.
use Rattle.std.proofs.Common.{Bool, Err, List, Ok, Result, [], ap, cond, false, length, refl, subst, sym, true, ◌==◌, ◌∙◌, ◌≡◌, ℕ}
use Rattle.std.proofs.lemmas.Bool.{eqb-true, false≢true}
use Rattle.node_core.specs.Core.{Core, world_of}
use Rattle.node_core.specs.Looking.{closed}
use Rattle.node_model.specs.Fold.{all_rows, node_result, results_of}
use Rattle.node_model.specs.History.{SealedBlock, snapshot}
use Rattle.node_model.specs.Journals.{IsLegal, delivered}
use Rattle.node_model.specs.World.{World}
use Rattle.node_model.specs.declared.journal.Entry.{Entry}
use Rattle.node_model.specs.declared.result.NodeResult.{NodeResult}
use Rattle.proc_syntax.specs.Declaring.{tables_of}
use Rattle.proc_syntax.specs.declared.call.Block.{Block}
use Rattle.schedule_laws.proofs.Folding.{worlds_have_journals}
use Rattle.schedule_sim.proofs.Bared.{delivered_bared}
use Rattle.schedule_sim.proofs.Legal.{blocks_numbered, schedules_seal_the_fold}
use Rattle.schedule_sim.specs.Bare.{Tells, bare_journal, state_of}
use Rattle.schedule_sim.specs.Running.{Given, if_all, result_told, scheduled, simulated}
use Rattle.schedule_sim.specs.declared.simulation.SimFault.TheVariants as fault
use Rattle.schedule_sim.specs.declared.step.Step.{Step}
use Rattle.serial_laws.proofs.Results.{results_run}
use Rattle.serial_laws.specs.InOrder.{EachInOrder}

abbrev ok_with : NodeResult → Result NodeResult ℕ
ok_with made = Ok made

-- a node that is closed, or too early
pub all_told : (core : Core) (blocks : List Block) (made : NodeResult) → (length (world_of core).sealed == length blocks) ≡ true → IsLegal core.app core.journal → made ≡ closed core
    → Tells (Ok made) (if_all core.app blocks (state_of core))
all_told core blocks made all legal is =
    ap (λ b. cond {A = Result NodeResult ℕ} b (Ok (result_told core.app (state_of core))) (Err (length (world_of core).sealed))) all
    ∙ ap (λ (journal : List Entry). ok_with (record (closed core) { journal = bare_journal journal })) (worlds_have_journals core.app core.journal)
    ∙ ap (λ (made : NodeResult). ok_with (record made { journal = bare_journal made.journal })) (sym is)

pub short_told : (core : Core) (blocks : List Block) (sealed : ℕ) → (length (world_of core).sealed == length blocks) ≡ false → sealed ≡ length (world_of core).sealed
    → Tells (Err (fault.Short sealed)) (if_all core.app blocks (state_of core))
short_told core blocks sealed not_all is =
    ap (λ b. cond {A = Result NodeResult ℕ} b (Ok (result_told core.app (state_of core))) (Err (length (world_of core).sealed))) not_all ∙ ap (λ n. Err n) (sym is)

-- ---- what follows from what is reported

abbrev is_told : Result NodeResult ℕ → Bool
is_told (Ok made) = true
is_told (Err sealed) = false

abbrev ok_of : NodeResult → Result NodeResult ℕ → NodeResult
ok_of other (Ok made) = made
ok_of other (Err sealed) = other

module _ (given : Given) (lines : List Step) (made : NodeResult) (told : Tells (Ok made) (simulated given lines)) where
  abbrev w : World
  w = scheduled given lines

  all : length w.sealed ≡ length given.blocks
  all = by (length w.sealed == length given.blocks) refl told
    where
      by : (b : Bool) → (length w.sealed == length given.blocks) ≡ b → cond {A = Result NodeResult ℕ} b (Ok (result_told given.app w)) (Err (length w.sealed)) ≡ Ok (record made { journal = bare_journal made.journal })
          → length w.sealed ≡ length given.blocks
      by true e h = eqb-true (length w.sealed) (length given.blocks) e
      by false e h = absurd (false≢true (ap is_told h))

  made_is : record made { journal = bare_journal made.journal } ≡ result_told given.app w
  made_is = by (length w.sealed == length given.blocks) told
    where
      by : (b : Bool) → cond {A = Result NodeResult ℕ} b (Ok (result_told given.app w)) (Err (length w.sealed)) ≡ Ok (record made { journal = bare_journal made.journal })
          → record made { journal = bare_journal made.journal } ≡ result_told given.app w
      by true h = sym (ap (ok_of made) h)
      by false h = absurd (false≢true (ap is_told h))

  pub folds : record made { journal = [] } ≡ node_result given.app given.blocks
  folds = ap (λ (one : NodeResult). record one { journal = [] }) made_is ∙ ap told_by (schedules_seal_the_fold given lines all).1
    where
      told_by : List SealedBlock → NodeResult
      told_by sealed = record { blocks = results_of (tables_of given.app) sealed; tables = all_rows (snapshot (length sealed) sealed) 0 (tables_of given.app); journal = [] }

  pub delivers : delivered made.journal ≡ given.blocks
  delivers = sym (delivered_bared made.journal) ∙ ap (λ (one : NodeResult). delivered one.journal) made_is ∙ (schedules_seal_the_fold given lines all).0

  pub replays : EachInOrder given.app given.blocks made.blocks
  replays = subst (EachInOrder given.app given.blocks) (sym (ap (λ (one : NodeResult). one.blocks) folds)) (results_run given.app given.blocks (blocks_numbered given lines all))
