-- What a node that holds a fold is asked, and what it answers.
use Rattle.std.proofs.Common.{IfOk, IfSome, List, None, Option, Some, [], ap, map, refl, subst, sym, ◌+◌, ◌∙◌, ◌∷◌, ◌≡◌, ℕ}
use Rattle.std.specs.List.{range_with_len}
use Rattle.std.specs.Prelude.{Err, Ok, Result, length}
use Rattle.bcdb.proofs.Clustered.{no_schedule}
use Rattle.bcdb.proofs.Processed.{folds_held}
use Rattle.bcdb.specs.Accepted.{accepted}
use Rattle.bcdb.specs.ArrivalFiles.{all_arrived}
use Rattle.bcdb.specs.Folds.{Folds, all_blocks, app_of}
use Rattle.bcdb.specs.Given.{AreFolded, IsBad}
use Rattle.bcdb.specs.ProgramAnswer.{says}
use Rattle.bcdb.specs.Refusals.{query_refusal, refusal_line}
use Rattle.bcdb.specs.Reply.{Means}
use Rattle.bcdb.specs.Selected.{Tells, selected}
use Rattle.bcdb.specs.VersionsAnswer.{over_blocks, over_query, over_versions}
use Rattle.bcdb.specs.declared.folding.Folded.{Folded}
use Rattle.bcdb.specs.declared.given.BadSource.TheVariants as bad
use Rattle.bcdb.specs.declared.given.BadSource.{BadSource}
use Rattle.bcdb.specs.declared.refusal.BadArrivals.{BadArrivals}
use Rattle.bcdb.specs.declared.refusal.Refusal.{Refusal}
use Rattle.bcdb.specs.declared.reply.Reply.{Reply}
use Rattle.bcdb.specs.declared.sources.Sources.{Sources}
use Rattle.bcdb.specs.declared.status.Status.TheVariants.{AppRefused, QueryRefused}
use Rattle.block_work.specs.declared.ids.IdIndex.{IdIndex}
use Rattle.chain_file.specs.Numbered.{NumberedFrom}
use Rattle.chain_file.specs.Chain.{chain}
use Rattle.edge_traits.specs.Shelf.{Files}
use Rattle.node_model.specs.Fold.{fold}
use Rattle.node_model.specs.declared.result.BlockResult.{BlockResult}
use Rattle.node_model.specs.declared.version.Version.{Version}
use Rattle.plain_node.specs.Holding.{HoldsFold}
use Rattle.proc_syntax.specs.Declaring.{tables_of}
use Rattle.proc_syntax.specs.declared.call.Block.{Block}
use Rattle.proc_syntax.specs.declared.call.Tx.{Tx}
use Rattle.proc_syntax.specs.declared.chain_fault.ChainFault.{ChainFault}
use Rattle.proc_syntax.specs.declared.tree.App.{App}
use Rattle.provenance.proofs.Folded.{folds_told, histories_told, results_numbered}
use Rattle.provenance.specs.Answer.{answer}
use Rattle.provenance.specs.Asked.{Answers}
use Rattle.provenance.specs.Grammar.{query_of}
use Rattle.provenance.specs.Laws.{RunFromOne}
use Rattle.provenance.specs.Versions.{AreTold, history_of}
use Rattle.provenance.specs.declared.query.Query.{Query}
use Rattle.provenance.specs.declared.query.QueryFault.{QueryFault}
use Rattle.provenance.specs.declared.query.QueryFault.TheVariants as fault
use Rattle.rel_base.specs.Tables.{Stamped}
use Rattle.rel_base.specs.declared.memory.NoMemory.{NoMemory}

-- its store has the history that its results tell
pub told_history : (app : App) (blocks : List Block) (history : List Stamped) (ids : IdIndex) (results : List BlockResult) → HoldsFold app blocks history ids results → history ≡ history_of results
told_history app blocks history ids results holds =
    holds.chain.writes ∙ sym (histories_told (tables_of app) (fold app blocks)) ∙ ap history_of (sym holds.chain.results)

run_from : (number : ℕ) (blocks : List Block) → NumberedFrom number blocks → map (λ block. block.number) blocks ≡ range_with_len number (length (map (λ block. block.number) blocks))
run_from number [] are = refl
run_from number (block ∷ rest) are = ap (λ n. n ∷ map (λ (b : Block). b.number) rest) are.0 ∙ ap (λ numbers. number ∷ numbers) (run_from (number + 1) rest are.1)

-- and each write of them stands at the place of a transaction
pub told_places : (app : App) (blocks : List Block) (history : List Stamped) (ids : IdIndex) (results : List BlockResult) → NumberedFrom 1 blocks → HoldsFold app blocks history ids results → AreTold results
told_places app blocks history ids results numbered holds = subst AreTold (sym holds.chain.results) (folds_told app blocks (run_from 1 blocks numbered))

-- and these are numbered from 1
pub told_numbers : (app : App) (blocks : List Block) (history : List Stamped) (ids : IdIndex) (results : List BlockResult) → NumberedFrom 1 blocks → HoldsFold app blocks history ids results
    → RunFromOne (map (λ block. block.number) results)
told_numbers app blocks history ids results numbered holds =
    subst RunFromOne (sym (ap (map (λ (block : BlockResult). block.number)) holds.chain.results ∙ results_numbered app blocks)) (run_from 1 blocks numbered)

same_told : (result meant other : Result (List Version) QueryFault) → meant ≡ other → Answers result meant → Tells result other
same_told (Ok versions) meant other same is = sym same ∙ is
same_told (Err fault.NoMemory) meant other same is = tt
same_told (Err fault.BadQuery) meant other same is = absurd is
same_told (Err fault.UnknownTable) meant other same is = sym same ∙ is
same_told (Err fault.BadKey) meant other same is = sym same ∙ is
same_told (Err fault.BadRange) meant other same is = sym same ∙ is

-- so an answer from it is the one that is meant
pub tells : (app : App) (blocks : List Block) (history : List Stamped) (ids : IdIndex) (results : List BlockResult) (query : Query) (text : Option Query) (result : Result (List Version) QueryFault)
    → HoldsFold app blocks history ids results → text ≡ Some query → Answers result (answer (tables_of app) results query) → Tells result (selected app blocks text)
tells app blocks history ids results query text result holds is answers =
    same_told result (answer (tables_of app) results query) (selected app blocks text)
    (ap (λ found. answer (tables_of app) found query) holds.chain.results ∙ ap (selected app blocks) (sym is)) answers

-- of a node that was given all blocks of a file
pub tells_folds : (folded : Folded) (query : Query) (text : Option Query) (results : List BlockResult) (result : Result (List Version) QueryFault) → text ≡ Some query → results ≡ folded.node.chain.blocks
    → Answers result (answer (tables_of (app_of folded)) results query) → (blocks : List Block) → Folds all_blocks blocks folded → Tells result (selected (app_of folded) blocks text)
tells_folds folded query text results result is same answers = λ blocks folds.
    tells (app_of folded) blocks folded.node.chain.versions.1.0 folded.node.ids folded.node.chain.blocks query text result (folds_held blocks folded folds) is
    (subst (λ (told : List BlockResult). Answers result (answer (tables_of (app_of folded)) told query)) same answers)

-- ---- what was read of the files decides

given_means : (query : List ℕ) (asked : Sources) (files : Files) (folded : Folded) (reply : Reply) → AreFolded all_blocks (Ok folded) asked files
    → ((blocks : List Block) → Folds all_blocks blocks folded → Means (over_blocks query (app_of folded) blocks folded.fault) reply) → Means (over_query query (accepted (files asked.app)) (files asked.blocks)) reply
given_means query asked files folded reply are means =
    subst (λ (f : Result App Refusal). Means (over_query query f (files asked.blocks)) reply) (sym are.0)
    (subst (λ (read : List Block × Option ChainFault). Means (over_blocks query (app_of folded) read.0 read.1) reply) (sym are.2.1.1) (means are.2.0 are.2.1.0))

none_bad : (why : BadArrivals) (found : Result (List (List Tx)) BadArrivals) → found ≡ Ok [] → found ≡ Err why → ⊥
none_bad why found fine is = cc

-- nothing arrives at no nodes
pub no_arrivals : (prefix : Option (List ℕ)) (nodes : ℕ) (why : BadArrivals) (files : Files) → nodes ≡ 0 → all_arrived prefix 1 nodes files ≡ Err why → ⊥
no_arrivals prefix nodes why files none is = none_bad why (all_arrived prefix 1 nodes files) (ap (λ count. all_arrived prefix 1 count files) none) is

pub query_means : (query : List ℕ) (folded : Folded) (result : Result Reply NoMemory) → IfOk result (λ reply. (blocks : List Block) → Folds all_blocks blocks folded → Means (over_blocks query (app_of folded) blocks folded.fault) reply)
    → IfOk result (λ reply. (asked : Sources) (files : Files) → asked.nodes ≡ 0 → asked.schedule ≡ None → AreFolded all_blocks (Ok folded) asked files
    → Means (over_query query (accepted (files asked.app)) (files asked.blocks)) reply)
query_means query folded (Ok reply) means = λ asked files none unscheduled are. given_means query asked files folded reply are means
query_means query folded (Err e) means = tt

-- a text that is no query is refused, whatever the blocks come to
refused_means : (query : List ℕ) (asked : Sources) (files : Files) (folded : Folded) (reply : Reply) → query_of query ≡ None → Means (says QueryRefused (query_refusal fault.BadQuery)) reply
    → AreFolded 0 (Ok folded) asked files → Means (over_query query (accepted (files asked.app)) (files asked.blocks)) reply
refused_means query asked files folded reply none means are =
    subst (λ (f : Result App Refusal). Means (over_query query f (files asked.blocks)) reply) (sym are.0)
    (subst (λ (o : Option Query). Means (over_versions (tables_of (app_of folded)) (chain (files asked.blocks)).1 (selected (app_of folded) (chain (files asked.blocks)).0 o)) reply) (sym none) means)

pub text_means : (query : List ℕ) (folded : Folded) (result : Result Reply NoMemory) → IfOk result (λ reply. (query_of query ≡ None) × Means (says QueryRefused (query_refusal fault.BadQuery)) reply)
    → IfOk result (λ reply. (asked : Sources) (files : Files) → asked.nodes ≡ 0 → asked.schedule ≡ None → AreFolded 0 (Ok folded) asked files
    → Means (over_query query (accepted (files asked.app)) (files asked.blocks)) reply)
text_means query folded (Ok reply) means = λ asked files none unscheduled are. refused_means query asked files folded reply means.0 means.1 are
text_means query folded (Err e) means = tt

pub app_means : (query : List ℕ) (refusal : Refusal) (result : Result Reply NoMemory) → IfOk result (λ reply. Means (says AppRefused (refusal_line refusal)) reply)
    → IfOk result (λ reply. (asked : Sources) (files : Files) → asked.nodes ≡ 0 → asked.schedule ≡ None → IsBad (bad.App refusal) asked files
    → Means (over_query query (accepted (files asked.app)) (files asked.blocks)) reply)
app_means query refusal (Ok reply) means = λ asked files none unscheduled is.
    subst (λ (f : Result App Refusal). Means (over_query query f (files asked.blocks)) reply) (sym is) means
app_means query refusal (Err e) means = tt

pub arrivals_mean : (query : List ℕ) (why : BadArrivals) (result : Result Reply NoMemory)
    → IfOk result (λ reply. (asked : Sources) (files : Files) → asked.nodes ≡ 0 → asked.schedule ≡ None → IsBad (bad.Arrivals why) asked files
    → Means (over_query query (accepted (files asked.app)) (files asked.blocks)) reply)
arrivals_mean query why (Ok reply) = λ asked files none unscheduled is. absurd (no_arrivals asked.arrivals asked.nodes why files none is.1)
arrivals_mean query why (Err e) = tt

pub schedule_means : (query : List ℕ) (line : ℕ) (result : Result Reply NoMemory)
    → IfOk result (λ reply. (asked : Sources) (files : Files) → asked.nodes ≡ 0 → asked.schedule ≡ None → IsBad (bad.Schedule line) asked files
    → Means (over_query query (accepted (files asked.app)) (files asked.blocks)) reply)
schedule_means query line (Ok reply) = λ asked files none unscheduled is. absurd (no_schedule asked.schedule line files unscheduled is.2)
schedule_means query line (Err e) = tt

-- over a shelf that tells its files
pub means_told : (told : Option Files) (query : List ℕ) (height : ℕ) (asked : Sources) (read : Result Folded BadSource) (reply : Reply) → asked.nodes ≡ 0 → asked.schedule ≡ None
    → ((asked : Sources) (files : Files) → asked.nodes ≡ 0 → asked.schedule ≡ None → AreFolded height read asked files → Means (over_query query (accepted (files asked.app)) (files asked.blocks)) reply)
    → IfSome told (λ files. AreFolded height read asked files) → IfSome told (λ files. Means (over_query query (accepted (files asked.app)) (files asked.blocks)) reply)
means_told None query height asked read reply none unscheduled gives are = tt
means_told (Some files) query height asked read reply none unscheduled gives are = gives asked files none unscheduled are
