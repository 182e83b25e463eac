-- What a simulation answers: the report of a node that a schedule drives.
use Rattle.std.specs.Prelude.{Err, List, Ok, Option, Result, [], ◌∷◌, ℕ}
use Rattle.bcdb.specs.ArrivalFiles.{arrived_in, file_at}
use Rattle.bcdb.specs.ProgramAnswer.{ProgramAnswer, says, status_of}
use Rattle.bcdb.specs.Refusals.{arrivals_refusal, refusal_line, schedule_refusal, short_refusal}
use Rattle.bcdb.specs.Sources.{steps_in}
use Rattle.bcdb.specs.declared.refusal.Refusal.{Refusal}
use Rattle.bcdb.specs.declared.sources.Sources.{Sources}
use Rattle.bcdb.specs.declared.status.Status.TheVariants.{AppRefused, ArrivalRefused, ScheduleRefused}
use Rattle.chain_file.specs.Chain.{chain}
use Rattle.edge_traits.specs.Shelf.{Files}
use Rattle.node_model.specs.declared.result.NodeResult.{NodeResult}
use Rattle.proc_syntax.specs.Declaring.{tables_of}
use Rattle.proc_syntax.specs.declared.call.Tx.{Tx}
use Rattle.proc_syntax.specs.declared.chain_fault.ChainFault.{ChainFault}
use Rattle.proc_syntax.specs.declared.tree.App.{App}
use Rattle.report_text.specs.Report.{report_text}
use Rattle.report_text.specs.declared.look.Look.{Look}
use Rattle.schedule_sim.specs.Running.{simulated}
use Rattle.schedule_sim.specs.declared.step.Step.{Step}

-- the node is reported; or so many blocks are sealed by a schedule that is short, also where the block file has a fault
abbrev pub over_node : Look → App → Option ChainFault → Result NodeResult ℕ → ProgramAnswer
over_node look app stop (Ok node) = says (status_of stop) (report_text look (tables_of app) (node ∷ []) stop)
over_node look app stop (Err sealed) = says ScheduleRefused (short_refusal sealed)

-- the schedule decides before the blocks
abbrev pub over_schedule : Look → App → List Tx → Result (List Step) ℕ → List ℕ → ProgramAnswer
over_schedule look app txs (Err line) bytes = says ScheduleRefused (schedule_refusal line)
over_schedule look app txs (Ok steps) bytes = over_node look app (chain bytes).1 (simulated (record { app = app; blocks = (chain bytes).0; arrivals = txs }) steps)

-- what arrives decides before the schedule
abbrev pub over_arrivals : Look → App → Result (List Tx) ℕ → Result (List Step) ℕ → List ℕ → ProgramAnswer
over_arrivals look app (Err line) steps bytes = says ArrivalRefused (arrivals_refusal (record { node = 1; line = line }))
over_arrivals look app (Ok txs) steps bytes = over_schedule look app txs steps bytes

-- the application decides before all of these
abbrev pub over_simulation : Look → Sources → Result App Refusal → Files → ProgramAnswer
over_simulation look asked (Err refusal) files = says AppRefused (refusal_line refusal)
over_simulation look asked (Ok app) files =
    over_arrivals look app (arrived_in (file_at asked.arrivals 1) files) (steps_in asked.schedule files) (files asked.blocks)
