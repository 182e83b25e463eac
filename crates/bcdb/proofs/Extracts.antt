-- What is drawn from the results of blocks, by what was read of the files.
use Rattle.std.proofs.Common.{IfOk, IfSome, List, None, Option, Some, ap, subst, sym, ◌∙◌, ◌≡◌, ℕ}
use Rattle.std.specs.Prelude.{Err, Ok, Result}
use Rattle.bcdb.proofs.Clustered.{no_schedule}
use Rattle.bcdb.proofs.Processed.{folds_held}
use Rattle.bcdb.proofs.Queries.{no_arrivals}
use Rattle.bcdb.specs.Accepted.{accepted}
use Rattle.bcdb.specs.ExtractAnswer.{extracted, folded, over_extract, over_results}
use Rattle.bcdb.specs.Folds.{Folds, all_blocks, app_of}
use Rattle.bcdb.specs.Given.{AreFolded}
use Rattle.bcdb.specs.ProgramAnswer.{says}
use Rattle.bcdb.specs.Refusals.{refusal_line}
use Rattle.bcdb.specs.Reply.{Means}
use Rattle.bcdb.specs.declared.extract.Extract.{Extract}
use Rattle.bcdb.specs.declared.folding.Folded.{Folded}
use Rattle.bcdb.specs.declared.given.BadSource.TheVariants as bad
use Rattle.bcdb.specs.declared.given.BadSource.{BadSource}
use Rattle.bcdb.specs.declared.refusal.BadArrivals.{BadArrivals}
use Rattle.bcdb.specs.declared.refusal.Refusal.{Refusal}
use Rattle.bcdb.specs.declared.reply.Reply.{Reply}
use Rattle.bcdb.specs.declared.sources.Sources.{Sources}
use Rattle.bcdb.specs.declared.status.Status.TheVariants.{AppRefused}
use Rattle.edge_traits.specs.Shelf.{Files}
use Rattle.node_model.specs.declared.result.BlockResult.{BlockResult}
use Rattle.proc_syntax.specs.declared.call.Block.{Block}
use Rattle.proc_syntax.specs.declared.chain_fault.ChainFault.{ChainFault}
use Rattle.proc_syntax.specs.declared.tree.App.{App}
use Rattle.rel_base.specs.declared.memory.NoMemory.{NoMemory}

given_means : (wanted : Extract) (asked : Sources) (files : Files) (folded : Folded) (reply : Reply) → AreFolded all_blocks (Ok folded) asked files
    → ((blocks : List Block) → Folds all_blocks blocks folded → Means (over_results wanted (app_of folded) blocks folded.fault) reply) → Means (over_extract wanted (accepted (files asked.app)) (files asked.blocks)) reply
given_means wanted asked files folded reply are means =
    subst (λ (f : Result App Refusal). Means (over_extract wanted f (files asked.blocks)) reply) (sym are.0)
    (subst (λ (read : List Block × Option ChainFault). Means (over_results wanted (app_of folded) read.0 read.1) reply) (sym are.2.1.1) (means are.2.0 are.2.1.0))

pub extract_means : (wanted : Extract) (folded : Folded) (result : Result Reply NoMemory) → IfOk result (λ reply. (blocks : List Block) → Folds all_blocks blocks folded → Means (over_results wanted (app_of folded) blocks folded.fault) reply)
    → IfOk result (λ reply. (asked : Sources) (files : Files) → asked.nodes ≡ 0 → asked.schedule ≡ None → AreFolded all_blocks (Ok folded) asked files
    → Means (over_extract wanted (accepted (files asked.app)) (files asked.blocks)) reply)
extract_means wanted folded (Ok reply) means = λ asked files none unscheduled are. given_means wanted asked files folded reply are means
extract_means wanted folded (Err e) means = tt

pub app_means : (wanted : Extract) (refusal : Refusal) (result : Result Reply NoMemory) → IfOk result (λ reply. Means (says AppRefused (refusal_line refusal)) reply)
    → IfOk result (λ reply. (asked : Sources) (files : Files) → asked.nodes ≡ 0 → asked.schedule ≡ None → AreFolded all_blocks (Err (bad.App refusal)) asked files
    → Means (over_extract wanted (accepted (files asked.app)) (files asked.blocks)) reply)
app_means wanted refusal (Ok reply) means = λ asked files none unscheduled is.
    subst (λ (f : Result App Refusal). Means (over_extract wanted f (files asked.blocks)) reply) (sym is) means
app_means wanted refusal (Err e) means = tt

pub arrivals_mean : (wanted : Extract) (why : BadArrivals) (result : Result Reply NoMemory)
    → IfOk result (λ reply. (asked : Sources) (files : Files) → asked.nodes ≡ 0 → asked.schedule ≡ None → AreFolded all_blocks (Err (bad.Arrivals why)) asked files
    → Means (over_extract wanted (accepted (files asked.app)) (files asked.blocks)) reply)
arrivals_mean wanted why (Ok reply) = λ asked files none unscheduled is. absurd (no_arrivals asked.arrivals asked.nodes why files none is.1)
arrivals_mean wanted why (Err e) = tt

pub schedule_means : (wanted : Extract) (line : ℕ) (result : Result Reply NoMemory)
    → IfOk result (λ reply. (asked : Sources) (files : Files) → asked.nodes ≡ 0 → asked.schedule ≡ None → AreFolded all_blocks (Err (bad.Schedule line)) asked files
    → Means (over_extract wanted (accepted (files asked.app)) (files asked.blocks)) reply)
schedule_means wanted line (Ok reply) = λ asked files none unscheduled is. absurd (no_schedule asked.schedule line files unscheduled is.2)
schedule_means wanted line (Err e) = tt

-- over a shelf that tells its files
pub means_told : (told : Option Files) (wanted : Extract) (asked : Sources) (read : Result Folded BadSource) (reply : Reply) → asked.nodes ≡ 0 → asked.schedule ≡ None
    → ((asked : Sources) (files : Files) → asked.nodes ≡ 0 → asked.schedule ≡ None → AreFolded all_blocks read asked files → Means (over_extract wanted (accepted (files asked.app)) (files asked.blocks)) reply)
    → IfSome told (λ files. AreFolded all_blocks read asked files) → IfSome told (λ files. Means (over_extract wanted (accepted (files asked.app)) (files asked.blocks)) reply)
means_told None wanted asked read reply none unscheduled gives are = tt
means_told (Some files) wanted asked read reply none unscheduled gives are = gives asked files none unscheduled are

-- the results that a node holds are those of the fold
pub held : (wanted : Extract) (made : Folded) (result : Result (Option (List ℕ)) NoMemory) (results : List BlockResult) → results ≡ made.node.chain.blocks → IfOk result (λ file. file ≡ extracted wanted results)
    → IfOk result (λ file. (blocks : List Block) → Folds all_blocks blocks made → file ≡ extracted wanted (folded (app_of made) blocks))
held wanted made (Ok file) results same is = λ blocks folds. is ∙ ap (extracted wanted) (same ∙ (folds_held blocks made folds).chain.results)
held wanted made (Err e) results same is = tt
