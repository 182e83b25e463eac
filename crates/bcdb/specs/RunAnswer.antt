-- What a run answers: the report of nodes that each make the fold of the blocks on the application.
use Rattle.std.specs.Prelude.{Err, List, Ok, Option, Result, replicate, ℕ}
use Rattle.bcdb.specs.ArrivalFiles.{all_arrived}
use Rattle.bcdb.specs.ProgramAnswer.{ProgramAnswer, says, status_of}
use Rattle.bcdb.specs.Refusals.{arrivals_refusal, refusal_line}
use Rattle.bcdb.specs.declared.refusal.BadArrivals.{BadArrivals}
use Rattle.bcdb.specs.declared.refusal.Refusal.{Refusal}
use Rattle.bcdb.specs.declared.sources.Sources.{Sources}
use Rattle.bcdb.specs.declared.status.Status.TheVariants.{AppRefused, ArrivalRefused}
use Rattle.chain_file.specs.Chain.{chain}
use Rattle.edge_traits.specs.Shelf.{Files}
use Rattle.node_model.specs.Fold.{node_result}
use Rattle.proc_syntax.specs.Declaring.{tables_of}
use Rattle.proc_syntax.specs.declared.call.Block.{Block}
use Rattle.proc_syntax.specs.declared.call.Tx.{Tx}
use Rattle.proc_syntax.specs.declared.chain_fault.ChainFault.{ChainFault}
use Rattle.proc_syntax.specs.declared.tree.App.{App}
use Rattle.report_text.specs.Report.{report_lines}
use Rattle.report_text.specs.declared.look.Look.{Look}

-- each node makes the fold of the blocks; how many executors it has, and what arrives, has no part in that
abbrev pub nodes_reported : Look → (nodes : ℕ) → App → List Block → Option ChainFault → ProgramAnswer
nodes_reported look nodes app blocks stop = says (status_of stop) (report_lines look (tables_of app) (replicate nodes (node_result app blocks)) stop)

-- what arrives decides before the blocks
abbrev pub over_nodes : Look → (nodes : ℕ) → App → Result (List (List Tx)) BadArrivals → List ℕ → ProgramAnswer
over_nodes look nodes app (Err bad) bytes = says ArrivalRefused (arrivals_refusal bad)
over_nodes look nodes app (Ok txs) bytes = nodes_reported look nodes app (chain bytes).0 (chain bytes).1

-- the application decides before all of these
abbrev pub over_run : Look → Sources → Result App Refusal → Files → ProgramAnswer
over_run look asked (Err refusal) files = says AppRefused (refusal_line refusal)
over_run look asked (Ok app) files = over_nodes look asked.nodes app (all_arrived asked.arrivals 1 asked.nodes files) (files asked.blocks)
