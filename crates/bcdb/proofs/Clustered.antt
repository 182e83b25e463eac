-- What a run of nodes answers, by what its nodes report.
use Rattle.std.proofs.Common.{All, Bool, IfOk, IfSome, List, None, Option, Some, [], ap, append-nil, arith, cond, false, length, refl, replicate, slice_index_or, subst, sym, true, ◌+◌, ◌++◌, ◌∙◌, ◌≡◌, ◌∷◌, ℕ}
use Rattle.std.proofs.lemmas.List.Elements.{All-head, All-tail}
use Rattle.std.specs.Prelude.{Err, Ok, Result, codes}
use Rattle.std.specs.Result.{IsOk}
use Rattle.bcdb.specs.Accepted.{accepted}
use Rattle.bcdb.specs.ArrivalFiles.{all_arrived}
use Rattle.bcdb.specs.Folds.{Folds, all_blocks, app_of}
use Rattle.bcdb.specs.Given.{AreFolded, AreGiven}
use Rattle.bcdb.specs.ProgramAnswer.{ProgramAnswer, says, status_of}
use Rattle.bcdb.specs.Refusals.{arrivals_refusal, refusal_line}
use Rattle.bcdb.specs.Reply.{Means}
use Rattle.bcdb.specs.RunAnswer.{over_nodes}
use Rattle.bcdb.specs.Sources.{steps_in}
use Rattle.bcdb.specs.Traced.{AreJournals, FollowsNodes, RepliesNodes, RepliesRun, followed_by}
use Rattle.bcdb.specs.declared.reply.Reply.{Reply}
use Rattle.bcdb.specs.declared.folding.Folded.{Folded}
use Rattle.bcdb.specs.declared.given.BadSource.TheVariants as bad
use Rattle.bcdb.specs.declared.given.BadSource.{BadSource}
use Rattle.bcdb.specs.declared.given.Given.{Given}
use Rattle.bcdb.specs.declared.refusal.BadArrivals.{BadArrivals}
use Rattle.bcdb.specs.declared.refusal.Refusal.{Refusal}
use Rattle.bcdb.specs.declared.sources.Sources.{Sources}
use Rattle.bcdb.specs.declared.status.Status.TheVariants.{AppRefused, ArrivalRefused}
use Rattle.chain_file.specs.Chain.{chain}
use Rattle.cluster_run.specs.Arrivals.{AreFedBy}
use Rattle.cluster_run.specs.Nodes.{IsNodeOf}
use Rattle.edge_traits.specs.Shelf.{Files}
use Rattle.node_model.specs.Fold.{node_result}
use Rattle.node_model.specs.declared.result.NodeResult.{NodeResult}
use Rattle.proc_syntax.specs.Declaring.{tables_of}
use Rattle.proc_syntax.specs.declared.call.Block.{Block}
use Rattle.proc_syntax.specs.declared.call.Tx.{Tx}
use Rattle.proc_syntax.specs.declared.chain_fault.ChainFault.{ChainFault}
use Rattle.proc_syntax.specs.declared.tree.App.{App}
use Rattle.rel_base.specs.declared.memory.NoMemory.{NoMemory}
use Rattle.report_text.specs.Ending.{end_line}
use Rattle.report_text.specs.JsonReport.{items_from, json_line, node_json, with_end}
use Rattle.report_text.specs.Report.{journals_text, node_lines, numbered, report_lines, report_text, shown_if, text_lines}
use Rattle.report_text.specs.declared.look.Look.{Look}
use Rattle.serde_json.specs.Data.{Items, array, item, object}
use Rattle.serde_json.specs.Written.{compact_text}

-- ---- a report shows no journal but where it is asked for, so nodes that each tell the fold are shown as so many folds

module _ (look : Look) (app : App) (blocks : List Block) where
  abbrev fold_node : NodeResult
  fold_node = node_result app blocks

  lines_same : (number : ℕ) (told : List NodeResult) → All (IsNodeOf app blocks) told
      → numbered (node_lines look (tables_of app)) number told ≡ numbered (node_lines look (tables_of app)) number (replicate (length told) fold_node)
  lines_same number [] each = refl
  lines_same number (node ∷ rest) each =
      ap (λ (n : NodeResult). node_lines look (tables_of app) number n ++ numbered (node_lines look (tables_of app)) (number + 1) rest) (All-head (IsNodeOf app blocks) node rest each).folds
      ∙ ap (λ lines. node_lines look (tables_of app) number fold_node ++ lines) (lines_same (number + 1) rest (All-tail (IsNodeOf app blocks) node rest each))

  items_same : (number : ℕ) (told : List NodeResult) → All (IsNodeOf app blocks) told
      → items_from (node_json look (tables_of app)) number told ≡ items_from (node_json look (tables_of app)) number (replicate (length told) fold_node)
  items_same number [] each = refl
  items_same number (node ∷ rest) each =
      ap (λ (n : NodeResult). item (node_json look (tables_of app) number n) (items_from (node_json look (tables_of app)) (number + 1) rest)) (All-head (IsNodeOf app blocks) node rest each).folds
      ∙ ap (λ (items : Items). item (node_json look (tables_of app) number fold_node) items) (items_same (number + 1) rest (All-tail (IsNodeOf app blocks) node rest each))

  report_same : (stop : Option ChainFault) (told : List NodeResult) → All (IsNodeOf app blocks) told
      → report_lines look (tables_of app) told stop ≡ report_lines look (tables_of app) (replicate (length told) fold_node) stop
  report_same stop told each = by look.json
    where
      by : (json : Bool) → cond json (json_line look (tables_of app) told stop) (text_lines look (tables_of app) told stop)
          ≡ cond json (json_line look (tables_of app) (replicate (length told) fold_node) stop) (text_lines look (tables_of app) (replicate (length told) fold_node) stop)
      by true = ap (λ (items : Items). compact_text (object (with_end stop (array items))) ++ codes "\n") (items_same 1 told each)
      by false = ap (λ lines. lines ++ end_line stop) (lines_same 1 told each)

are_journals : (asked : Bool) (app : App) (blocks : List Block) (arrivals : List (List Tx)) (count : ℕ) (told : List NodeResult) → All (IsNodeOf app blocks) told → AreFedBy told arrivals → length told ≡ count
    → AreJournals asked app blocks arrivals count (shown_if asked (journals_text told))
are_journals false app blocks arrivals count told each fed counted = refl
are_journals true app blocks arrivals count told each fed counted = (told, (record { counted = counted; each = each; fed = fed }, refl))

pub replies_nodes : (look : Look) (nodes : ℕ) (app : App) (blocks : List Block) (arrivals : List (List Tx)) (stop : Option ChainFault) (told : List NodeResult) (reply : Reply) → All (IsNodeOf app blocks) told → AreFedBy told arrivals → length told ≡ nodes
    → Means (says (status_of stop) (report_text look (tables_of app) told stop)) reply → RepliesNodes look nodes app blocks arrivals stop reply
replies_nodes look nodes app blocks arrivals stop told reply each fed counted means =
    let shown : List ℕ = shown_if look.trace (journals_text told) in
    let same = report_same look app blocks stop told each ∙ ap (λ count. report_lines look (tables_of app) (replicate count (node_result app blocks)) stop) counted in
    (shown, (are_journals look.trace app blocks arrivals nodes told each fed counted, subst (λ lines. Means (says (status_of stop) (lines ++ shown)) reply) same means))

pub reply_nodes : (look : Look) (nodes : ℕ) (app : App) (blocks : List Block) (arrivals : List (List Tx)) (stop : Option ChainFault) (told : List NodeResult) (result : Result Reply NoMemory) → All (IsNodeOf app blocks) told → AreFedBy told arrivals → length told ≡ nodes
    → IfOk result (λ reply. Means (says (status_of stop) (report_text look (tables_of app) told stop)) reply) → IfOk result (λ reply. RepliesNodes look nodes app blocks arrivals stop reply)
reply_nodes look nodes app blocks arrivals stop told (Ok reply) each fed counted means = replies_nodes look nodes app blocks arrivals stop told reply each fed counted means
reply_nodes look nodes app blocks arrivals stop told (Err e) each fed counted means = tt

-- one node whose journal is not asked for is reported by the fold alone
replies_alone : (look : Look) (app : App) (blocks : List Block) (arrivals : List (List Tx)) (stop : Option ChainFault) (reply : Reply) → look.trace ≡ false
    → Means (says (status_of stop) (report_text look (tables_of app) (node_result app blocks ∷ []) stop)) reply → RepliesNodes look 1 app blocks arrivals stop reply
replies_alone look app blocks arrivals stop reply silent means =
    let told : List NodeResult = node_result app blocks ∷ [] in
    let none : shown_if look.trace (journals_text told) ≡ [] = ap (λ b. shown_if b (journals_text told)) silent in (
      [],
      (
        subst (λ b. AreJournals b app blocks arrivals 1 []) (sym silent) refl,
        subst (λ shown. Means (says (status_of stop) (report_lines look (tables_of app) told stop ++ shown)) reply) none means,
      ),
    )

pub reply_alone : (look : Look) (app : App) (blocks : List Block) (arrivals : List (List Tx)) (stop : Option ChainFault) (nodes : List NodeResult) (result : Result Reply NoMemory) → look.trace ≡ false
    → nodes ≡ node_result app blocks ∷ [] → IfOk result (λ reply. Means (says (status_of stop) (report_text look (tables_of app) nodes stop)) reply)
    → IfOk result (λ reply. RepliesNodes look 1 app blocks arrivals stop reply)
reply_alone look app blocks arrivals stop nodes (Ok reply) silent is means =
    replies_alone look app blocks arrivals stop reply silent (subst (λ (told : List NodeResult). Means (says (status_of stop) (report_text look (tables_of app) told stop)) reply) is means)
reply_alone look app blocks arrivals stop nodes (Err e) silent is means = tt

-- the results of the first of three nodes are those of the fold
pub first_tells : (app : App) (blocks : List Block) (told : List NodeResult) (first : NodeResult) → length told ≡ 3 → All (IsNodeOf app blocks) told → slice_index_or told 0 first ≡ first
    → first.blocks ≡ (node_result app blocks).blocks
first_tells app blocks told first counted each is =
    ap (λ (node : NodeResult). node.blocks) (sym is) ∙ ap (λ (node : NodeResult). node.blocks) (each 0 first (omega (arith, counted))).folds

-- ---- what the files came to decides

-- nothing follows a refusal
pub alone : (meant : ProgramAnswer) (reply : Reply) → Means meant reply → Means (followed_by [] meant) reply
alone meant reply means = record { status = means.status; bytes = means.bytes ∙ sym (append-nil meant.bytes) }

ran_by : (look : Look) (asked : Sources) (app : App) (blocks : List Block) (arrivals : List (List Tx)) (stop : Option ChainFault) (reply : Reply) (files : Files)
    → RepliesNodes look asked.nodes app blocks arrivals stop reply → accepted (files asked.app) ≡ Ok app → all_arrived asked.arrivals 1 asked.nodes files ≡ Ok arrivals
    → chain (files asked.blocks) ≡ (blocks, stop) → RepliesRun look asked (accepted (files asked.app)) files reply
ran_by look asked app blocks arrivals stop reply files replies accepts arrive reads =
    subst (λ (found : Result App Refusal). RepliesRun look asked found files reply) (sym accepts)
    (subst (λ (found : Result (List (List Tx)) BadArrivals). (lines : List ℕ)
    × (FollowsNodes look asked.nodes app found (files asked.blocks) lines × Means (followed_by lines (over_nodes look asked.nodes app found (files asked.blocks))) reply)) (sym arrive)
    (subst (λ (read : List Block × Option ChainFault). RepliesNodes look asked.nodes app read.0 arrivals read.1 reply) (sym reads) replies))

ran : (look : Look) (asked : Sources) (given : Given) (reply : Reply) (files : Files) → RepliesNodes look asked.nodes given.app.app given.read.blocks given.arrivals given.read.fault reply → AreGiven (Ok given) asked files
    → RepliesRun look asked (accepted (files asked.app)) files reply
ran look asked given reply files replies are = ran_by look asked given.app.app given.read.blocks given.arrivals given.read.fault reply files replies are.0 are.1 are.3

pub replies_run : (look : Look) (asked : Sources) (given : Given) (result : Result Reply NoMemory) → IfOk result (λ reply. RepliesNodes look asked.nodes given.app.app given.read.blocks given.arrivals given.read.fault reply)
    → IfOk result (λ reply. (files : Files) → AreGiven (Ok given) asked files → RepliesRun look asked (accepted (files asked.app)) files reply)
replies_run look asked given (Ok reply) replies = λ files are. ran look asked given reply files replies are
replies_run look asked given (Err e) replies = tt

pub replies_app : (look : Look) (asked : Sources) (refusal : Refusal) (result : Result Reply NoMemory) → IfOk result (λ reply. Means (says AppRefused (refusal_line refusal)) reply)
    → IfOk result (λ reply. (files : Files) → AreGiven (Err (bad.App refusal)) asked files → RepliesRun look asked (accepted (files asked.app)) files reply)
replies_app look asked refusal (Ok reply) means = λ files is.
    subst (λ (found : Result App Refusal). RepliesRun look asked found files reply) (sym is) ([], (refl, alone (says AppRefused (refusal_line refusal)) reply means))
replies_app look asked refusal (Err e) means = tt

refused : (look : Look) (asked : Sources) (fault : BadArrivals) (reply : Reply) (files : Files) (found : Result App Refusal) → Means (says ArrivalRefused (arrivals_refusal fault)) reply
    → IsOk found → all_arrived asked.arrivals 1 asked.nodes files ≡ Err fault → RepliesRun look asked found files reply
refused look asked fault reply files (Ok app) means ok is =
    subst (λ (found : Result (List (List Tx)) BadArrivals). (lines : List ℕ)
    × (FollowsNodes look asked.nodes app found (files asked.blocks) lines × Means (followed_by lines (over_nodes look asked.nodes app found (files asked.blocks))) reply)) (sym is)
    ([], (refl, alone (says ArrivalRefused (arrivals_refusal fault)) reply means))
refused look asked fault reply files (Err refusal) means ok is = absurd (not_ok ok)
  where
    not_ok : false ≡ true → ⊥
    not_ok is = cc

pub replies_arrivals : (look : Look) (asked : Sources) (fault : BadArrivals) (result : Result Reply NoMemory) → IfOk result (λ reply. Means (says ArrivalRefused (arrivals_refusal fault)) reply)
    → IfOk result (λ reply. (files : Files) → AreGiven (Err (bad.Arrivals fault)) asked files → RepliesRun look asked (accepted (files asked.app)) files reply)
replies_arrivals look asked fault (Ok reply) means = λ files is. refused look asked fault reply files (accepted (files asked.app)) means is.0 is.1
replies_arrivals look asked fault (Err e) means = tt

-- a run has no schedule that could be refused
pub no_schedule : (name : Option (List ℕ)) (line : ℕ) (files : Files) → name ≡ None → steps_in name files ≡ Err line → ⊥
no_schedule None line files none is = cc
no_schedule (Some name) line files none is = absurd (cc)

pub replies_schedule : (look : Look) (asked : Sources) (line : ℕ) (result : Result Reply NoMemory) → asked.schedule ≡ None
    → IfOk result (λ reply. (files : Files) → AreGiven (Err (bad.Schedule line)) asked files → RepliesRun look asked (accepted (files asked.app)) files reply)
replies_schedule look asked line (Ok reply) none = λ files is. absurd (no_schedule asked.schedule line files none is.2)
replies_schedule look asked line (Err e) none = tt

-- under the words that a shelf tells its files
pub replies_told : (told : Option Files) (look : Look) (asked : Sources) (read : Result Given BadSource) (reply : Reply)
    → ((files : Files) → AreGiven read asked files → RepliesRun look asked (accepted (files asked.app)) files reply)
    → IfSome told (λ files. AreGiven read asked files) → IfSome told (λ files. RepliesRun look asked (accepted (files asked.app)) files reply)
replies_told None look asked read reply gives are = tt
replies_told (Some files) look asked read reply gives are = gives files are

-- ---- of one node that has run by itself

pub reply_folded : (look : Look) (folded : Folded) (nodes : List NodeResult) (result : Result Reply NoMemory) → look.trace ≡ false
    → ((blocks : List Block) → Folds all_blocks blocks folded → nodes ≡ node_result (app_of folded) blocks ∷ [])
    → IfOk result (λ reply. Means (says (status_of folded.fault) (report_text look (tables_of (app_of folded)) nodes folded.fault)) reply)
    → IfOk result (λ reply. (blocks : List Block) (arrivals : List (List Tx)) → Folds all_blocks blocks folded → RepliesNodes look 1 (app_of folded) blocks arrivals folded.fault reply)
reply_folded look folded nodes (Ok reply) silent is means = λ blocks arrivals folds.
    reply_alone look (app_of folded) blocks arrivals folded.fault nodes (Ok reply) silent (is blocks folds) means
reply_folded look folded nodes (Err e) silent is means = tt

-- which took blocks that were read
pub reply_read : (look : Look) (nodes : ℕ) (app : App) (blocks : List Block) (arrivals : List (List Tx)) (stop : Option ChainFault) (folded : Folded) (result : Result Reply NoMemory) → nodes ≡ 1
    → app_of folded ≡ app → folded.fault ≡ stop → Folds all_blocks blocks folded
    → IfOk result (λ reply. (given : List Block) (others : List (List Tx)) → Folds all_blocks given folded → RepliesNodes look 1 (app_of folded) given others folded.fault reply)
    → IfOk result (λ reply. RepliesNodes look nodes app blocks arrivals stop reply)
reply_read look nodes app blocks arrivals stop folded (Ok reply) one same ends folds replies =
    subst (λ count. RepliesNodes look count app blocks arrivals stop reply) (sym one)
    (subst (λ (own : App). RepliesNodes look 1 own blocks arrivals stop reply) same
    (subst (λ (end : Option ChainFault). RepliesNodes look 1 (app_of folded) blocks arrivals end reply) ends (replies blocks arrivals folds)))
reply_read look nodes app blocks arrivals stop folded (Err e) one same ends folds replies = tt

ran_alone : (look : Look) (asked : Sources) (folded : Folded) (reply : Reply) (files : Files) → asked.nodes ≡ 1
    → ((blocks : List Block) (arrivals : List (List Tx)) → Folds all_blocks blocks folded → RepliesNodes look 1 (app_of folded) blocks arrivals folded.fault reply) → AreFolded all_blocks (Ok folded) asked files
    → RepliesRun look asked (accepted (files asked.app)) files reply
ran_alone look asked folded reply files one replies are = by (all_arrived asked.arrivals 1 asked.nodes files) refl are.1
  where
    by : (found : Result (List (List Tx)) BadArrivals) → all_arrived asked.arrivals 1 asked.nodes files ≡ found → IsOk found → RepliesRun look asked (accepted (files asked.app)) files reply
    by (Ok txs) is ok =
        ran_by look asked (app_of folded) are.2.0 txs folded.fault reply files
        (subst (λ nodes. RepliesNodes look nodes (app_of folded) are.2.0 txs folded.fault reply) (sym one) (replies are.2.0 txs are.2.1.0)) are.0 is are.2.1.1
    by (Err bad) is ok = absurd (cc)

pub replies_fold : (look : Look) (folded : Folded) (result : Result Reply NoMemory)
    → IfOk result (λ reply. (blocks : List Block) (arrivals : List (List Tx)) → Folds all_blocks blocks folded → RepliesNodes look 1 (app_of folded) blocks arrivals folded.fault reply)
    → IfOk result (λ reply. (asked : Sources) (files : Files) → asked.nodes ≡ 1 → asked.schedule ≡ None → AreFolded all_blocks (Ok folded) asked files → RepliesRun look asked (accepted (files asked.app)) files reply)
replies_fold look folded (Ok reply) replies = λ asked files one unscheduled are. ran_alone look asked folded reply files one replies are
replies_fold look folded (Err e) replies = tt

pub alone_app : (look : Look) (refusal : Refusal) (result : Result Reply NoMemory) → IfOk result (λ reply. Means (says AppRefused (refusal_line refusal)) reply)
    → IfOk result (λ reply. (asked : Sources) (files : Files) → asked.nodes ≡ 1 → asked.schedule ≡ None → AreFolded all_blocks (Err (bad.App refusal)) asked files → RepliesRun look asked (accepted (files asked.app)) files reply)
alone_app look refusal (Ok reply) means = λ asked files one unscheduled is. replies_app look asked refusal (Ok reply) means files is
alone_app look refusal (Err e) means = tt

pub alone_arrivals : (look : Look) (fault : BadArrivals) (result : Result Reply NoMemory) → IfOk result (λ reply. Means (says ArrivalRefused (arrivals_refusal fault)) reply)
    → IfOk result (λ reply. (asked : Sources) (files : Files) → asked.nodes ≡ 1 → asked.schedule ≡ None → AreFolded all_blocks (Err (bad.Arrivals fault)) asked files → RepliesRun look asked (accepted (files asked.app)) files reply)
alone_arrivals look fault (Ok reply) means = λ asked files one unscheduled is. replies_arrivals look asked fault (Ok reply) means files is
alone_arrivals look fault (Err e) means = tt

pub alone_schedule : (look : Look) (line : ℕ) (result : Result Reply NoMemory)
    → IfOk result (λ reply. (asked : Sources) (files : Files) → asked.nodes ≡ 1 → asked.schedule ≡ None → AreFolded all_blocks (Err (bad.Schedule line)) asked files → RepliesRun look asked (accepted (files asked.app)) files reply)
alone_schedule look line (Ok reply) = λ asked files one unscheduled is. replies_schedule look asked line (Ok reply) unscheduled files is
alone_schedule look line (Err e) = tt

pub alone_told : (told : Option Files) (look : Look) (asked : Sources) (read : Result Folded BadSource) (reply : Reply) → asked.nodes ≡ 1 → asked.schedule ≡ None
    → ((names : Sources) (files : Files) → names.nodes ≡ 1 → names.schedule ≡ None → AreFolded all_blocks read names files → RepliesRun look names (accepted (files names.app)) files reply)
    → IfSome told (λ files. AreFolded all_blocks read asked files) → IfSome told (λ files. RepliesRun look asked (accepted (files asked.app)) files reply)
alone_told None look asked read reply one unscheduled gives are = tt
alone_told (Some files) look asked read reply one unscheduled gives are = gives asked files one unscheduled are
