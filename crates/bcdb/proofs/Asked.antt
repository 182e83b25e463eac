-- What a question is answered from what a node holds, and by what was read of the files.
use Rattle.std.proofs.Common.{IfOk, IfSome, List, None, Option, Some, ap, arith, length, refl, subst, sym, take, ◌∙◌, ◌≡◌, ◌≤◌, ℕ}
use Rattle.std.specs.Prelude.{Err, Ok, Result}
use Rattle.bcdb.proofs.Clustered.{no_schedule}
use Rattle.bcdb.proofs.Queries.{no_arrivals}
use Rattle.bcdb.proofs.Processed.{held_long}
use Rattle.bcdb.proofs.Sooner.{asks_first, take_among}
use Rattle.bcdb.specs.Accepted.{accepted}
use Rattle.bcdb.specs.Folds.{Folds, app_of}
use Rattle.bcdb.specs.Given.{AreFolded, AreInputs, IsBad}
use Rattle.bcdb.specs.ProgramAnswer.{says}
use Rattle.bcdb.specs.Refusals.{refusal_line}
use Rattle.bcdb.specs.Reply.{Means}
use Rattle.bcdb.specs.RowsAnswer.{rows_asked, over_ask, over_asked, over_rows}
use Rattle.bcdb.specs.declared.folding.Folded.{Folded}
use Rattle.bcdb.specs.declared.given.BadSource.TheVariants as bad
use Rattle.bcdb.specs.declared.given.BadSource.{BadSource}
use Rattle.bcdb.specs.declared.given.Inputs.{Inputs}
use Rattle.bcdb.specs.declared.refusal.BadArrivals.{BadArrivals}
use Rattle.bcdb.specs.declared.refusal.Refusal.{Refusal}
use Rattle.bcdb.specs.declared.reply.Reply.{Reply}
use Rattle.bcdb.specs.declared.sources.Sources.{Sources}
use Rattle.bcdb.specs.declared.status.Status.TheVariants.{AppRefused}
use Rattle.block_work.specs.declared.ids.IdIndex.{IdIndex}
use Rattle.chain_file.specs.Numbered.{NumberedFrom}
use Rattle.chain_file.specs.Chain.{chain}
use Rattle.edge_traits.specs.Shelf.{Files}
use Rattle.node_model.specs.Fold.{fold}
use Rattle.node_model.specs.History.{history_of}
use Rattle.node_model.specs.declared.result.BlockResult.{BlockResult}
use Rattle.plain_node.specs.Holding.{HoldsFold}
use Rattle.proc_syntax.specs.Declaring.{tables_of}
use Rattle.proc_syntax.specs.declared.call.Block.{Block}
use Rattle.proc_syntax.specs.declared.chain_fault.ChainFault.{ChainFault}
use Rattle.proc_syntax.specs.declared.tree.App.{App}
use Rattle.query_plan.specs.Answer.{Answers, answer_of}
use Rattle.query_plan.specs.declared.fault.AskFault.TheVariants as fault
use Rattle.query_plan.specs.declared.fault.AskFault.{AskFault}
use Rattle.query_plan.specs.declared.select.Select.{Select}
use Rattle.query_text.specs.Answered.{answered}
use Rattle.query_text.specs.Walk.{Met, ◌>>=◌, select_of}
use Rattle.rel_base.specs.Tables.{Stamped, tables_at}
use Rattle.rel_base.specs.declared.memory.NoMemory.{NoMemory}
use Rattle.rel_base.specs.declared.schema.TableDef.{TableDef}
use Rattle.rel_base.specs.declared.value.Value.{Value}

-- what a node of the first blocks holds
pub asked_held : (app own : App) (blocks : List Block) (history : List Stamped) (ids : IdIndex) (results : List BlockResult) (height : ℕ) (text : List ℕ) (result : Result (List (List Value)) AskFault)
    → own ≡ app → NumberedFrom 1 blocks → HoldsFold app (take height blocks) history ids results → Answers result (answered (tables_of own) text history (length blocks) height) → Answers result (rows_asked height text app blocks)
asked_held app own blocks history ids results height text result same numbered holds answers =
    subst (Answers result)
    (ap (λ (a : App). answered (tables_of a) text history (length blocks) height) same
    ∙ ap (λ (h : List Stamped). answered (tables_of app) text h (length blocks) height) holds.chain.writes
    ∙ asks_first height text app blocks numbered) answers

-- the answer to the query that a text is
pub answers_select : (tables : List TableDef) (text : List ℕ) (history : List Stamped) (sealed height : ℕ) (select : Select) (result : Result (List (List Value)) AskFault) → select_of tables text ≡ Ok select
    → Answers result (answer_of (tables_at height history) select sealed height) → Answers result (answered tables text history sealed height)
answers_select tables text history sealed height select result is answers =
    subst (Answers result) (ap (λ (met : Met Select). met >>= λ select. answer_of (tables_at height history) select sealed height) (sym is)) answers

-- so a node that was given all blocks of a file answers
pub asked_taken : (folded : Folded) (blocks : List Block) (height : ℕ) (text : List ℕ) (result : Result (List (List Value)) AskFault) → Folds height blocks folded
    → Answers result (answered (tables_of (app_of folded)) text folded.node.chain.versions.1.0 folded.taken height) → Answers result (rows_asked height text (app_of folded) blocks)
asked_taken folded blocks height text result folds answers =
    asked_held (app_of folded) (app_of folded) blocks folded.node.chain.versions.1.0 folded.node.ids folded.node.chain.blocks height text result refl folds.numbered folds.holds.holds
    (subst (λ sealed. Answers result (answered (tables_of (app_of folded)) text folded.node.chain.versions.1.0 sealed height)) folds.holds.count answers)

-- it has no more results than there are blocks
pub held_among : (height : ℕ) (blocks : List Block) (folded : Folded) → Folds height blocks folded → length folded.node.chain.blocks ≤ folded.taken
held_among height blocks folded folds =
    let long = held_long height blocks folded.taken (app_of folded) folded.node.chain.versions.0 folded.node.chain.versions.1.0 folded.node.ids folded.node.chain.blocks folds.holds in
    let less = take_among height blocks in
    let count = folds.holds.count in
    omega (arith, long, less, count)

-- ---- what was read of the files decides

given_means : (height : ℕ) (text : List ℕ) (asked : Sources) (files : Files) (folded : Folded) (reply : Reply) → AreFolded height (Ok folded) asked files
    → ((blocks : List Block) → Folds height blocks folded → Means (over_asked height text (app_of folded) blocks folded.fault) reply) → Means (over_ask height text (accepted (files asked.app)) (files asked.blocks)) reply
given_means height text asked files folded reply are means =
    subst (λ (f : Result App Refusal). Means (over_ask height text f (files asked.blocks)) reply) (sym are.0)
    (subst (λ (read : List Block × Option ChainFault). Means (over_asked height text (app_of folded) read.0 read.1) reply) (sym are.2.1.1) (means are.2.0 are.2.1.0))

-- a question whose text is a query is answered by what the blocks come to
pub select_told : (told : Option Files) (height : ℕ) (text : List ℕ) (asked : Sources) (inputs : Inputs) (folded : Folded) (reply : Reply)
    → ((blocks : List Block) → Folds height blocks folded → Means (over_asked height text (app_of folded) blocks folded.fault) reply)
    → IfSome told (λ files. AreInputs (Ok inputs) asked files → AreFolded height (Ok folded) asked files)
    → IfSome told (λ files. AreInputs (Ok inputs) asked files → Means (over_ask height text (accepted (files asked.app)) (files asked.blocks)) reply)
select_told None height text asked inputs folded reply means are = tt
select_told (Some files) height text asked inputs folded reply means are = λ read. given_means height text asked files folded reply (are read) means

-- what a text is answered, by the query that it is
abbrev rows_of : (height : ℕ) → App → List Block → Met Select → Result (List (List Value)) AskFault
rows_of height app blocks met = met >>= λ select. answer_of (tables_at height (history_of (fold app blocks))) select (length (fold app blocks)) height

-- a text that is no query is refused, whatever the blocks come to
refused_rows : (fault : AskFault) (height : ℕ) (text : List ℕ) (app : App) (blocks : List Block) → Answers (Err fault) (select_of (tables_of app) text) → Answers (Err fault) (rows_asked height text app blocks)
refused_rows fault.NoMemory height text app blocks is = tt
refused_rows (fault.Syntax line col) height text app blocks is = ap (rows_of height app blocks) is
refused_rows (fault.UnknownName line col) height text app blocks is = ap (rows_of height app blocks) is
refused_rows (fault.NameTwice line col) height text app blocks is = ap (rows_of height app blocks) is
refused_rows (fault.WrongKind line col) height text app blocks is = ap (rows_of height app blocks) is
refused_rows (fault.TooHigh sealed) height text app blocks is = ap (rows_of height app blocks) is
refused_rows fault.TooMany height text app blocks is = ap (rows_of height app blocks) is
refused_rows fault.Overflow height text app blocks is = ap (rows_of height app blocks) is

pub text_told : (told : Option Files) (height : ℕ) (text : List ℕ) (asked : Sources) (inputs : Inputs) (fault : AskFault) (reply : Reply)
    → Answers (Err fault) (select_of (tables_of inputs.app.app) text)
    → ((meant : Result (List (List Value)) AskFault) (stop : Option ChainFault) → Answers (Err fault) meant → Means (over_rows stop meant) reply)
    → IfSome told (λ files. AreInputs (Ok inputs) asked files → Means (over_ask height text (accepted (files asked.app)) (files asked.blocks)) reply)
text_told None height text asked inputs fault reply is means = tt
text_told (Some files) height text asked inputs fault reply is means = λ read.
    subst (λ (f : Result App Refusal). Means (over_ask height text f (files asked.blocks)) reply) (sym read.0)
    (means (rows_asked height text inputs.app.app (chain (files asked.blocks)).0) (chain (files asked.blocks)).1 (refused_rows fault height text inputs.app.app (chain (files asked.blocks)).0 is))

pub app_means : (height : ℕ) (text : List ℕ) (refusal : Refusal) (result : Result Reply NoMemory) → IfOk result (λ reply. Means (says AppRefused (refusal_line refusal)) reply)
    → IfOk result (λ reply. (asked : Sources) (files : Files) → asked.nodes ≡ 0 → asked.schedule ≡ None → IsBad (bad.App refusal) asked files
    → Means (over_ask height text (accepted (files asked.app)) (files asked.blocks)) reply)
app_means height text refusal (Ok reply) means = λ sources files none unscheduled is.
    subst (λ (f : Result App Refusal). Means (over_ask height text f (files sources.blocks)) reply) (sym is) means
app_means height text refusal (Err e) means = tt

pub arrivals_mean : (height : ℕ) (text : List ℕ) (why : BadArrivals) (result : Result Reply NoMemory)
    → IfOk result (λ reply. (asked : Sources) (files : Files) → asked.nodes ≡ 0 → asked.schedule ≡ None → IsBad (bad.Arrivals why) asked files
    → Means (over_ask height text (accepted (files asked.app)) (files asked.blocks)) reply)
arrivals_mean height text why (Ok reply) = λ sources files none unscheduled is. absurd (no_arrivals sources.arrivals sources.nodes why files none is.1)
arrivals_mean height text why (Err e) = tt

pub schedule_means : (height : ℕ) (text : List ℕ) (line : ℕ) (result : Result Reply NoMemory)
    → IfOk result (λ reply. (asked : Sources) (files : Files) → asked.nodes ≡ 0 → asked.schedule ≡ None → IsBad (bad.Schedule line) asked files
    → Means (over_ask height text (accepted (files asked.app)) (files asked.blocks)) reply)
schedule_means height text line (Ok reply) = λ sources files none unscheduled is. absurd (no_schedule sources.schedule line files unscheduled is.2)
schedule_means height text line (Err e) = tt

-- over a shelf that tells its files
pub bad_told : (told : Option Files) (height : ℕ) (text : List ℕ) (asked : Sources) (why : BadSource) (reply : Reply) → asked.nodes ≡ 0 → asked.schedule ≡ None
    → ((asked : Sources) (files : Files) → asked.nodes ≡ 0 → asked.schedule ≡ None → IsBad why asked files → Means (over_ask height text (accepted (files asked.app)) (files asked.blocks)) reply)
    → IfSome told (λ files. AreInputs (Err why) asked files) → IfSome told (λ files. Means (over_ask height text (accepted (files asked.app)) (files asked.blocks)) reply)
bad_told None height text sources why reply none unscheduled gives are = tt
bad_told (Some files) height text sources why reply none unscheduled gives are = gives sources files none unscheduled are
