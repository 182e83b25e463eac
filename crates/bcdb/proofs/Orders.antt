-- The orders that a run answers.
use Rattle.std.proofs.Common.{Bool, IfSome, List, None, Option, Some, [], cond, false, length, refl, subst, sym, true, ◌+◌, ◌==◌, ◌≡◌, ◌∷◌, ℕ}
use Rattle.std.proofs.lemmas.Bool.{eqb-true}
use Rattle.std.specs.Prelude.{Err, Ok, Result}
use Rattle.bcdb.specs.Accepted.{accepted}
use Rattle.bcdb.specs.ArrivalFiles.{arrived_in, file_at}
use Rattle.bcdb.specs.InOrder.{BlocksInOrder, RunsInOrder, StepsInOrder, ToldInOrder}
use Rattle.bcdb.specs.declared.refusal.Refusal.{Refusal}
use Rattle.chain_file.proofs.Counted.{file_numbered}
use Rattle.chain_file.specs.Chain.{chain}
use Rattle.chain_file.specs.Numbered.{NumberedFrom}
use Rattle.cli_words.specs.declared.settings.Settings.TheVariants.{Checkpoint, Compare, Load, Order, Provenance, Prove, Query, Run, Seal, Simulate, Verify}
use Rattle.cli_words.specs.declared.settings.Settings.{Settings}
use Rattle.edge_traits.specs.Shelf.{Files}
use Rattle.node_model.specs.Fold.{results_of}
use Rattle.node_model.specs.declared.result.NodeResult.{NodeResult}
use Rattle.proc_syntax.specs.Declaring.{tables_of}
use Rattle.proc_syntax.specs.declared.call.Block.{Block}
use Rattle.proc_syntax.specs.declared.call.Tx.{Tx}
use Rattle.proc_syntax.specs.declared.tree.App.{App}
use Rattle.schedule_sim.proofs.Legal.{blocks_numbered, schedules_seal_the_fold}
use Rattle.schedule_sim.specs.Running.{Given, result_told, scheduled, simulated}
use Rattle.schedule_sim.specs.Schedules.{schedule_of}
use Rattle.schedule_sim.specs.declared.step.Step.{Step}
use Rattle.serial_laws.specs.InOrder.{EachInOrder}
use Rattle.serial_laws.proofs.Results.{results_run}
use Rattle.serial_laws.specs.Chained.{AreNumbered}

numbered : (number : ℕ) (blocks : List Block) → NumberedFrom number blocks → AreNumbered number blocks
numbered number [] are = tt
numbered number (block ∷ rest) are = (are.0, numbered (number + 1) rest are.1)

-- blocks of a file are numbered as the nodes want them
pub numbered_from : (blocks taken : List Block) → taken ≡ blocks → NumberedFrom 1 blocks → AreNumbered 1 taken
numbered_from blocks taken same are = subst (AreNumbered 1) (sym same) (numbered 1 blocks are)

blocks_in_order : (found : Result App Refusal) (bytes : List ℕ) → BlocksInOrder found bytes
blocks_in_order (Err refusal) bytes = tt
blocks_in_order (Ok app) bytes = results_run app (chain bytes).0 (numbered 1 (chain bytes).0 (file_numbered bytes))

-- where a schedule seals all blocks, it seals their fold
simulated_in_order : (given : Given) (lines : List Step) → ToldInOrder given.app given.blocks (simulated given lines)
simulated_in_order given lines = by (length (scheduled given lines).sealed == length given.blocks) refl
  where
    by : (all : Bool) → (length (scheduled given lines).sealed == length given.blocks) ≡ all
        → ToldInOrder given.app given.blocks (cond {A = Result NodeResult ℕ} all (Ok (result_told given.app (scheduled given lines))) (Err (length (scheduled given lines).sealed)))
    by true e =
        let all = eqb-true (length (scheduled given lines).sealed) (length given.blocks) e in
        subst (λ sealed. EachInOrder given.app given.blocks (results_of (tables_of given.app) sealed)) (sym (schedules_seal_the_fold given lines all).1)
        (results_run given.app given.blocks (blocks_numbered given lines all))
    by false e = tt

steps_in_order : (app : Result App Refusal) (txs : Result (List Tx) ℕ) (steps : Result (List Step) ℕ) (bytes : List ℕ) → StepsInOrder app txs steps bytes
steps_in_order (Err refusal) txs steps bytes = tt
steps_in_order (Ok app) (Err line) steps bytes = tt
steps_in_order (Ok app) (Ok txs) (Err line) bytes = tt
steps_in_order (Ok app) (Ok txs) (Ok steps) bytes = simulated_in_order (record { app = app; blocks = (chain bytes).0; arrivals = txs }) steps

runs_in_order : (settings : Option Settings) (files : Files) → RunsInOrder settings files
runs_in_order None files = tt
runs_in_order (Some (Run app blocks front nodes executors flags)) files = blocks_in_order (accepted (files app)) (files blocks)
runs_in_order (Some (Simulate app blocks schedule front flags)) files =
    steps_in_order (accepted (files app)) (arrived_in (file_at front 1) files) (schedule_of (files schedule)) (files blocks)
runs_in_order (Some (Provenance app blocks query)) files = tt
runs_in_order (Some (Seal blocks)) files = tt
runs_in_order (Some (Load number)) files = tt
runs_in_order (Some (Order clients count most)) files = tt
runs_in_order (Some (Checkpoint app blocks heads)) files = tt
runs_in_order (Some (Compare prefix count)) files = tt
runs_in_order (Some (Prove app blocks block write)) files = tt
runs_in_order (Some (Verify proof head)) files = tt
runs_in_order (Some (Query app blocks height text)) files = tt

pub told_in_order : (settings : Option Settings) (told : Option Files) → IfSome told (RunsInOrder settings)
told_in_order settings None = tt
told_in_order settings (Some files) = runs_in_order settings files
