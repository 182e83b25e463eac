-- A simulation answers as a run does, where it is not refused.
use Rattle.std.proofs.Common.{Bool, IfSome, List, None, Option, Some, [], ap, append-nil, cond, false, length, refl, sym, true, ◌++◌, ◌==◌, ◌≡◌, ◌∷◌, ℕ}
use Rattle.std.proofs.lemmas.Bool.{eqb-true}
use Rattle.std.specs.Prelude.{Err, Ok, Result}
use Rattle.bcdb.specs.Accepted.{accepted}
use Rattle.bcdb.specs.Agrees.{Adds, AnswersAsRun, is_refused}
use Rattle.bcdb.specs.ArrivalFiles.{arrived_in, file_at}
use Rattle.bcdb.specs.ProgramAnswer.{ProgramAnswer, look_of, says, status_of}
use Rattle.bcdb.specs.RunAnswer.{over_run}
use Rattle.bcdb.specs.SimulationAnswer.{over_arrivals, over_node, over_schedule, over_simulation}
use Rattle.bcdb.specs.Sources.{run_sources, simulation_sources}
use Rattle.bcdb.specs.Refusals.{refusal_line}
use Rattle.bcdb.specs.declared.refusal.Refusal.{Refusal}
use Rattle.chain_file.specs.Chain.{chain}
use Rattle.cli_words.specs.declared.settings.Settings.TheVariants.{Checkpoint, Compare, Load, Order, Provenance, Prove, Query, Run, Seal, Simulate, Verify}
use Rattle.cli_words.specs.declared.settings.Settings.{Settings}
use Rattle.edge_traits.specs.Shelf.{Files}
use Rattle.node_model.specs.Fold.{all_rows, node_result, results_of}
use Rattle.node_model.specs.History.{SealedBlock, snapshot}
use Rattle.node_model.specs.declared.result.NodeResult.{NodeResult}
use Rattle.proc_syntax.specs.Declaring.{tables_of}
use Rattle.proc_syntax.specs.declared.call.Block.{Block}
use Rattle.proc_syntax.specs.declared.call.Tx.{Tx}
use Rattle.proc_syntax.specs.declared.chain_fault.ChainFault.{ChainFault}
use Rattle.proc_syntax.specs.declared.tree.App.{App}
use Rattle.report_text.specs.Report.{journals_text, report_lines, shown_if}
use Rattle.report_text.specs.declared.look.Look.{Look}
use Rattle.schedule_sim.proofs.Legal.{schedules_seal_the_fold}
use Rattle.schedule_sim.specs.Running.{Given, result_told, scheduled, simulated}
use Rattle.schedule_sim.specs.Schedules.{schedule_of}
use Rattle.schedule_sim.specs.declared.step.Step.{Step}

abbrev told_by : App → List SealedBlock → NodeResult
told_by app sealed = record { blocks = results_of (tables_of app) sealed; tables = all_rows (snapshot (length sealed) sealed) 0 (tables_of app); journal = [] }

-- the report of a run of one node
abbrev one_reported : Look → App → List Block → Option ChainFault → ProgramAnswer
one_reported look app blocks stop = says (status_of stop) (report_lines look (tables_of app) (node_result app blocks ∷ []) stop)

simulated_as_run : (look : Look) (given : Given) (lines : List Step) (stop : Option ChainFault) → is_refused (over_node look given.app stop (simulated given lines)).status ≡ false
    → Adds look.trace (one_reported look given.app given.blocks stop) (over_node look given.app stop (simulated given lines))
simulated_as_run look given lines stop kept = by (length (scheduled given lines).sealed == length given.blocks) refl kept
  where
    by : (all : Bool) → (length (scheduled given lines).sealed == length given.blocks) ≡ all
        → is_refused (over_node look given.app stop (cond {A = Result NodeResult ℕ} all (Ok (result_told given.app (scheduled given lines))) (Err (length (scheduled given lines).sealed)))).status ≡ false
        → Adds look.trace (one_reported look given.app given.blocks stop)
        (over_node look given.app stop (cond {A = Result NodeResult ℕ} all (Ok (result_told given.app (scheduled given lines))) (Err (length (scheduled given lines).sealed))))
    by true e kept =
        let sealed = (schedules_seal_the_fold given lines (eqb-true (length (scheduled given lines).sealed) (length given.blocks) e)).1 in
        let journals : List ℕ = journals_text (result_told given.app (scheduled given lines) ∷ []) in
        record {
          status = refl;
          more = shown_if look.trace journals;
          bytes = ap (λ (chain : List SealedBlock). report_lines look (tables_of given.app) (told_by given.app chain ∷ []) stop ++ shown_if look.trace journals) sealed;
          none = λ silent. ap (λ b. shown_if b journals) silent;
        }
    by false e kept = absurd (cc)

scheduled_as_run : (look : Look) (app : App) (txs : List Tx) (steps : Result (List Step) ℕ) (bytes : List ℕ) → is_refused (over_schedule look app txs steps bytes).status ≡ false
    → Adds look.trace (one_reported look app (chain bytes).0 (chain bytes).1) (over_schedule look app txs steps bytes)
scheduled_as_run look app txs (Err line) bytes kept = absurd (cc)
scheduled_as_run look app txs (Ok steps) bytes kept = simulated_as_run look (record { app = app; blocks = (chain bytes).0; arrivals = txs }) steps (chain bytes).1 kept

arrived_as_run : (look : Look) (app : App) (txs : Result (List Tx) ℕ) (steps : Result (List Step) ℕ) (bytes : List ℕ) → is_refused (over_arrivals look app txs steps bytes).status ≡ false
    → Adds look.trace (one_reported look app (chain bytes).0 (chain bytes).1) (over_arrivals look app txs steps bytes)
arrived_as_run look app (Err line) steps bytes kept = absurd (cc)
arrived_as_run look app (Ok txs) steps bytes kept = scheduled_as_run look app txs steps bytes kept

as_run : (settings : Option Settings) (files : Files) → AnswersAsRun settings files
as_run None files = tt
as_run (Some (Run app blocks front nodes executors flags)) files = tt
as_run (Some (Simulate app blocks schedule front flags)) files = λ kept. by (accepted (files app)) kept
  where
    by : (found : Result App Refusal) → is_refused (over_simulation (look_of flags) (simulation_sources app blocks schedule front) found files).status ≡ false
        → Adds flags.trace (over_run (look_of flags) (run_sources app blocks None 1) found files) (over_simulation (look_of flags) (simulation_sources app blocks schedule front) found files)
    by (Err refusal) kept = record { status = refl; more = []; bytes = sym (append-nil (refusal_line refusal)); none = λ silent. refl }
    by (Ok checked) kept = arrived_as_run (look_of flags) checked (arrived_in (file_at front 1) files) (schedule_of (files schedule)) (files blocks) kept
as_run (Some (Provenance app blocks query)) files = tt
as_run (Some (Seal blocks)) files = tt
as_run (Some (Load number)) files = tt
as_run (Some (Order clients count most)) files = tt
as_run (Some (Checkpoint app blocks heads)) files = tt
as_run (Some (Compare prefix count)) files = tt
as_run (Some (Prove app blocks block write)) files = tt
as_run (Some (Verify proof head)) files = tt
as_run (Some (Query app blocks height text)) files = tt

pub told_as_run : (settings : Option Settings) (told : Option Files) → IfSome told (AnswersAsRun settings)
told_as_run settings None = tt
told_as_run settings (Some files) = as_run settings files
