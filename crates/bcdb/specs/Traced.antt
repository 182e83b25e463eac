-- What follows an answer: after the report of a run its journals, if they are asked for, and of an order its draft.
use Rattle.std.specs.Prelude.{All, Bool, Err, List, Ok, Option, Result, Some, [], false, length, true, ◌++◌, ◌≡◌, ◌⊎◌, ℕ}
use Rattle.bcdb.specs.Accepted.{accepted}
use Rattle.bcdb.specs.Answer.{Writes, over_settings}
use Rattle.bcdb.specs.ArrivalFiles.{all_arrived}
use Rattle.bcdb.specs.OrderAnswer.{FollowsOrder, over_order}
use Rattle.bcdb.specs.ProgramAnswer.{ProgramAnswer, look_of, says}
use Rattle.bcdb.specs.Reply.{Means}
use Rattle.bcdb.specs.RunAnswer.{nodes_reported, over_run}
use Rattle.bcdb.specs.Sources.{run_sources}
use Rattle.bcdb.specs.declared.refusal.BadArrivals.{BadArrivals}
use Rattle.bcdb.specs.declared.refusal.Refusal.{Refusal}
use Rattle.bcdb.specs.declared.reply.Reply.{Reply}
use Rattle.bcdb.specs.declared.sources.Sources.{Sources}
use Rattle.bcdb.specs.declared.status.Status.TheVariants.{NoMemory}
use Rattle.bcdb.specs.declared.status.Status.{Status}
use Rattle.chain_file.specs.Chain.{chain}
use Rattle.cli_words.specs.declared.settings.Settings.TheVariants.{Order, Run}
use Rattle.cli_words.specs.declared.settings.Settings.{Settings}
use Rattle.cluster_run.specs.Arrivals.{AreFedBy}
use Rattle.cluster_run.specs.Nodes.{IsNodeOf}
use Rattle.edge_traits.specs.Shelf.{Files}
use Rattle.edge_traits.specs.Sink.{WroteFront}
use Rattle.node_model.specs.declared.result.NodeResult.{NodeResult}
use Rattle.proc_syntax.specs.declared.call.Block.{Block}
use Rattle.proc_syntax.specs.declared.call.Tx.{Tx}
use Rattle.proc_syntax.specs.declared.chain_fault.ChainFault.{ChainFault}
use Rattle.proc_syntax.specs.declared.tree.App.{App}
use Rattle.report_text.specs.Report.{journals_text}
use Rattle.report_text.specs.declared.look.Look.{Look}

-- so many nodes tell of these blocks: each the results that are reported, and a journal of its own that steps can make, that delivers the blocks and
-- comes to these results; what arrived there is of that node's own arrivals, in their order
pub record AreNodesOf (app : App) (blocks : List Block) (arrivals : List (List Tx)) (count : ℕ) (told : List NodeResult) : Type 0 where
  pub counted : length told ≡ count
  pub each : All (IsNodeOf app blocks) told
  pub fed : AreFedBy told arrivals

-- the journals of such nodes, if they are asked for
abbrev pub AreJournals : (asked : Bool) → App → List Block → List (List Tx) → (count : ℕ) → List ℕ → Type 0
AreJournals false app blocks arrivals count lines = lines ≡ []
AreJournals true app blocks arrivals count lines = (told : List NodeResult) × (AreNodesOf app blocks arrivals count told × (lines ≡ journals_text told))

-- none where what arrives, or the application, is refused
abbrev pub FollowsNodes : Look → (nodes : ℕ) → App → Result (List (List Tx)) BadArrivals → List ℕ → List ℕ → Type 0
FollowsNodes look nodes app (Err bad) bytes lines = lines ≡ []
FollowsNodes look nodes app (Ok txs) bytes lines = AreJournals look.trace app (chain bytes).0 txs nodes lines

abbrev pub FollowsRun : Look → Sources → Result App Refusal → Files → List ℕ → Type 0
FollowsRun look asked (Err refusal) files lines = lines ≡ []
FollowsRun look asked (Ok app) files lines = FollowsNodes look asked.nodes app (all_arrived asked.arrivals 1 asked.nodes files) (files asked.blocks) lines

-- and none after what other commands answer
abbrev pub Follows : Option Settings → Files → List ℕ → Type 0
Follows (Some (Run app blocks arrivals nodes executors flags)) files lines = FollowsRun (look_of flags) (run_sources app blocks arrivals nodes) (accepted (files app)) files lines
Follows (Some (Order clients count most)) files lines = FollowsOrder most (all_arrived (Some clients) 1 count files) lines
Follows settings files lines = lines ≡ []

-- an answer, and lines that follow it
abbrev pub followed_by : List ℕ → ProgramAnswer → ProgramAnswer
followed_by lines meant = says meant.status (meant.bytes ++ lines)

-- a reply has the answer and what may follow it: of nodes that ran, of a run over files, of an order, and of each command
abbrev pub RepliesNodes : Look → (nodes : ℕ) → App → List Block → List (List Tx) → Option ChainFault → Reply → Type 0
RepliesNodes look nodes app blocks arrivals stop reply =
    (lines : List ℕ) × (AreJournals look.trace app blocks arrivals nodes lines × Means (followed_by lines (nodes_reported look nodes app blocks stop)) reply)

abbrev pub RepliesRun : Look → Sources → Result App Refusal → Files → Reply → Type 0
RepliesRun look asked found files reply = (lines : List ℕ) × (FollowsRun look asked found files lines × Means (followed_by lines (over_run look asked found files)) reply)

abbrev pub RepliesOrder : (most : ℕ) → Result (List (List Tx)) BadArrivals → Reply → Type 0
RepliesOrder most found reply = (lines : List ℕ) × (FollowsOrder most found lines × Means (followed_by lines (over_order most found)) reply)

abbrev pub Replies : Option Settings → Files → Reply → Type 0
Replies settings files reply = (lines : List ℕ) × (Follows settings files lines × Means (followed_by lines (over_settings settings files)) reply)

-- The answer and what may follow it is written; or memory runs out, and a prefix of the answer was written.
abbrev pub EndsTraced : Option Settings → Files → Status → Option (List ℕ) → Option (List ℕ) → Type 0
EndsTraced settings files status before now =
    ((status ≡ NoMemory) × WroteFront before now (over_settings settings files).bytes)
    ⊎ ((lines : List ℕ) × (Follows settings files lines × Writes (followed_by lines (over_settings settings files)) status before now))
