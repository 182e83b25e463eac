-- What a run over files answers, and the orders in it.
use Rattle.std.specs.Prelude.{Err, List, None, Ok, Option, Result, Some, ℕ}
use Rattle.bcdb.specs.ArrivalFiles.{arrived_in, file_at}
use Rattle.bcdb.specs.Accepted.{accepted}
use Rattle.bcdb.specs.declared.refusal.Refusal.{Refusal}
use Rattle.chain_file.specs.Chain.{chain}
use Rattle.cli_words.specs.declared.settings.Settings.TheVariants.{Run, Simulate}
use Rattle.cli_words.specs.declared.settings.Settings.{Settings}
use Rattle.edge_traits.specs.Shelf.{Files}
use Rattle.node_model.specs.Fold.{node_result}
use Rattle.node_model.specs.declared.result.NodeResult.{NodeResult}
use Rattle.proc_syntax.specs.declared.call.Block.{Block}
use Rattle.proc_syntax.specs.declared.call.Tx.{Tx}
use Rattle.proc_syntax.specs.declared.tree.App.{App}
use Rattle.schedule_sim.specs.Running.{simulated}
use Rattle.schedule_sim.specs.Schedules.{schedule_of}
use Rattle.schedule_sim.specs.declared.step.Step.{Step}
use Rattle.serial_laws.specs.InOrder.{EachInOrder}

-- of the blocks of a file, on an application, the results that are reported tell for each block an order in which its committed
-- transactions run again one by one
abbrev pub BlocksInOrder : Result App Refusal → List ℕ → Type 0
BlocksInOrder (Err refusal) bytes = Unit {0}
BlocksInOrder (Ok app) bytes = EachInOrder app (chain bytes).0 (node_result app (chain bytes).0).blocks

-- and so do those that a node tells which a schedule drives, if they are reported
abbrev pub ToldInOrder : App → List Block → Result NodeResult ℕ → Type 0
ToldInOrder app blocks (Err sealed) = Unit {0}
ToldInOrder app blocks (Ok told) = EachInOrder app blocks told.blocks

abbrev pub StepsInOrder : Result App Refusal → Result (List Tx) ℕ → Result (List Step) ℕ → List ℕ → Type 0
StepsInOrder (Err refusal) txs steps bytes = Unit {0}
StepsInOrder (Ok app) (Err line) steps bytes = Unit {0}
StepsInOrder (Ok app) (Ok txs) (Err line) bytes = Unit {0}
StepsInOrder (Ok app) (Ok txs) (Ok steps) bytes = ToldInOrder app (chain bytes).0 (simulated (record { app = app; blocks = (chain bytes).0; arrivals = txs }) steps)

-- so it is with each run and each simulation over files
abbrev pub RunsInOrder : Option Settings → Files → Type 0
RunsInOrder None files = Unit {0}
RunsInOrder (Some (Run app blocks front nodes executors flags)) files = BlocksInOrder (accepted (files app)) (files blocks)
RunsInOrder (Some (Simulate app blocks schedule front flags)) files =
    StepsInOrder (accepted (files app)) (arrived_in (file_at front 1) files) (schedule_of (files schedule)) (files blocks)
RunsInOrder (Some _) files = Unit {0}
