-- What nothing is refused of: the words are in the language, each file that the command reads is what it must be, and what is asked of them is accepted.
use Rattle.std.specs.Prelude.{Err, IsOk, IsSome, List, None, Ok, Option, Result, Some, ℕ}
use Rattle.bcdb.specs.Accepted.{accepted}
use Rattle.bcdb.specs.ArrivalFiles.{all_arrived, arrived_in, file_at}
use Rattle.bcdb.specs.ExtractAnswer.{extracted, folded}
use Rattle.bcdb.specs.OrderAnswer.{IsFew}
use Rattle.bcdb.specs.Plan.{AreSound, plan_of}
use Rattle.bcdb.specs.RowsAnswer.{rows_asked}
use Rattle.bcdb.specs.Selected.{selected}
use Rattle.bcdb.specs.declared.extract.Extract.TheVariants.{Hashes, Proof}
use Rattle.bcdb.specs.declared.extract.Extract.{Extract}
use Rattle.bcdb.specs.declared.refusal.Refusal.{Refusal}
use Rattle.chain_file.specs.Chain.{chain}
use Rattle.cli_words.specs.declared.settings.Settings.TheVariants.{Checkpoint, Compare, Load, Order, Provenance, Prove, Query, Run, Seal, Simulate, Verify}
use Rattle.cli_words.specs.declared.settings.Settings.{Settings}
use Rattle.edge_traits.specs.Shelf.{Files}
use Rattle.proc_syntax.specs.declared.call.Tx.{Tx}
use Rattle.proc_syntax.specs.declared.tree.App.{App}
use Rattle.provenance.specs.Grammar.{query_of}
use Rattle.schedule_sim.specs.Running.{simulated}
use Rattle.schedule_sim.specs.Schedules.{schedule_of}
use Rattle.schedule_sim.specs.declared.step.Step.{Step}

-- a schedule seals all blocks
abbrev pub SealsAll : Result App Refusal → Result (List Tx) ℕ → Result (List Step) ℕ → List ℕ → Type 0
SealsAll (Err refusal) txs steps bytes = ⊥
SealsAll (Ok app) (Err line) steps bytes = ⊥
SealsAll (Ok app) (Ok txs) (Err line) bytes = ⊥
SealsAll (Ok app) (Ok txs) (Ok steps) bytes = IsOk (simulated (record { app = app; blocks = (chain bytes).0; arrivals = txs }) steps)

-- a query is accepted over an application and blocks
abbrev pub Selects : (query : List ℕ) → Result App Refusal → List ℕ → Type 0
Selects query (Err refusal) bytes = ⊥
Selects query (Ok app) bytes = IsOk (selected app (chain bytes).0 (query_of query))

-- what is wanted of the results of blocks is there
abbrev pub Extracts : Extract → Result App Refusal → List ℕ → Type 0
Extracts wanted (Err refusal) bytes = ⊥
Extracts wanted (Ok app) bytes = IsSome (extracted wanted (folded app (chain bytes).0))

-- a question is answered over an application and blocks
abbrev pub IsAnswered : (height : ℕ) (text : List ℕ) → Result App Refusal → List ℕ → Type 0
IsAnswered height text (Err refusal) bytes = ⊥
IsAnswered height text (Ok app) bytes = IsOk (rows_asked height text app (chain bytes).0)

-- what a command asks of its files is accepted
abbrev pub IsAccepted : Option Settings → Files → Type 0
IsAccepted None files = ⊥
IsAccepted (Some (Run app blocks arrivals nodes executors flags)) files = Unit {0}
IsAccepted (Some (Simulate app blocks schedule arrivals flags)) files =
    SealsAll (accepted (files app)) (arrived_in (file_at arrivals 1) files) (schedule_of (files schedule)) (files blocks)
IsAccepted (Some (Provenance app blocks query)) files = Selects query (accepted (files app)) (files blocks)
IsAccepted (Some (Seal blocks)) files = Unit {0}
IsAccepted (Some (Load number)) files = Unit {0}
IsAccepted (Some (Order clients count most)) files = IsFew most (all_arrived (Some clients) 1 count files)
IsAccepted (Some (Checkpoint app blocks heads)) files = Extracts (Hashes heads) (accepted (files app)) (files blocks)
IsAccepted (Some (Compare prefix count)) files = Unit {0}
IsAccepted (Some (Prove app blocks block write)) files = Extracts (Proof block write) (accepted (files app)) (files blocks)
IsAccepted (Some (Verify proof head)) files = Unit {0}
IsAccepted (Some (Query app blocks height text)) files = IsAnswered height text (accepted (files app)) (files blocks)

abbrev pub IsWhole : Option Settings → Files → Type 0
IsWhole settings files = AreSound (plan_of settings) files × IsAccepted settings files
