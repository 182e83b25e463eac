-- The writes of each block of a fold have a head: a transaction has at most 100,000 of them and a block 1,024 transactions, and each fits its table.
use Rattle.std.proofs.Common.{All, List, [], arith, length, length-append, map, subst, sym, ◌+◌, ◌*◌, ◌++◌, ◌∙◌, ◌≡◌, ◌≤◌, ◌∷◌, ℕ}
use Rattle.std.proofs.lemmas.List.{length-map}
use Rattle.std.proofs.lemmas.List.Elements.{All-cons, All-head, All-nil, All-push, All-tail}
use Rattle.bcdb.specs.FewWrites.{HasFewWrites}
use Rattle.block_digest.specs.Codable.{IsFewWrite}
use Rattle.block_work.proofs.Bounds.{fitting_few}
use Rattle.block_work.specs.Chain.{StoreFits}
use Rattle.block_work.specs.declared.ids.IdIndex.{IdIndex}
use Rattle.node_model.specs.Decide.{decide, run_at}
use Rattle.node_model.specs.Fold.{Work, block_result, fold, fold_from, join_committed, no_digest, no_work, results_from, seal, work_on, work_through}
use Rattle.node_model.specs.History.{SealedBlock, history_of, placed_of, snapshot, stamped_of, time_at}
use Rattle.node_model.specs.declared.outcome.Outcome.TheVariants as outcome
use Rattle.node_model.specs.declared.outcome.Outcome.{Outcome}
use Rattle.node_model.specs.declared.result.BlockResult.{BlockResult}
use Rattle.node_model.specs.declared.result.Committed.{Committed}
use Rattle.plain_node.specs.Holding.{HoldsFold}
use Rattle.proc_check.proofs.Bounds.{small_tables}
use Rattle.proc_check.specs.Sizes.{IsSmall}
use Rattle.proc_check.specs.declared.checked.Checked.{Checked}
use Rattle.proc_syntax.proofs.Runs.{few_writes}
use Rattle.proc_syntax.specs.Declaring.{tables_of}
use Rattle.proc_syntax.specs.declared.call.Block.{Block}
use Rattle.proc_syntax.specs.declared.call.Tx.{Tx}
use Rattle.proc_syntax.specs.declared.run.Ran.{Ran}
use Rattle.proc_syntax.specs.declared.tree.App.{App}
use Rattle.rel_base.specs.Among.{WriteFitsIn}
use Rattle.rel_base.specs.Tables.{HistoryFits, Stamped}
use Rattle.rel_base.specs.declared.access.Placed.{Placed}
use Rattle.rel_base.specs.declared.access.Write.{Write}
use Rattle.rel_base.specs.declared.schema.TableDef.{TableDef}

-- ---- how many there are

abbrev HasFew : Committed → Type 0
HasFew done = length done.writes ≤ 100000

-- at most as many transactions committed as have outcomes, each with few writes
record IsFewWork (work : Work) : Type 0 where
  count : length work.committed ≤ length work.outcomes
  each : All HasFew work.committed

joined : (committed : List Committed) (place total : ℕ) (ran : Ran) (found : Outcome) → length ran.writes ≤ 100000 → length committed ≤ total → All HasFew committed
    → (length (join_committed committed place ran found) ≤ total + 1) × All HasFew (join_committed committed place ran found)
joined committed place total ran outcome.Committed few count each =
    let longer = length-append committed (record { pos = place; reads = ran.reads; writes = ran.writes } ∷ []) in
    (omega (arith, longer, count), All-push HasFew committed (record { pos = place; reads = ran.reads; writes = ran.writes }) each few)
joined committed place total ran _ few count each = (omega (arith, count), each)

worked : (app : App) (chain : List SealedBlock) (number : ℕ) (work : Work) (txs : List Tx) → IsFewWork work
    → IsFewWork (work_through app chain number work txs) × (length (work_through app chain number work txs).outcomes ≡ length work.outcomes + length txs)
worked app chain number work [] few = (few, omega arith)
worked app chain number work (tx ∷ rest) few =
    let found = decide app chain number work.outcomes work.committed tx in
    let longer : length (work.outcomes ++ record { id = tx.id; outcome = found } ∷ []) ≡ length work.outcomes + 1 = length-append work.outcomes (record { id = tx.id; outcome = found } ∷ []) in
    let both = joined work.committed (length work.outcomes + 1) (length work.outcomes) (run_at app chain tx) found (few_run app chain tx) few.count few.each in
    let count = both.0 in
    let more = worked app chain number (work_on app chain number work tx) rest (record { count = omega (arith, count, longer); each = both.1 }) in
    let total = more.1 in
    (more.0, omega (arith, total, longer))
  where
    few_run : (app : App) (chain : List SealedBlock) (tx : Tx) → length (run_at app chain tx).writes ≤ 100000
    few_run app chain tx = few_writes app tx (time_at tx.height chain) (snapshot tx.height chain)

-- of a block that was decided
abbrev IsFewBlock : SealedBlock → Type 0
IsFewBlock block = (length block.committed ≤ 1024) × All HasFew block.committed

sealed_few : (app : App) (chain : List SealedBlock) (block : Block) → IsFewBlock (seal app chain block)
sealed_few app chain block =
    let both = worked app chain block.number no_work block.txs (record { count = omega arith; each = All-nil HasFew }) in
    let count = both.0.count in
    let total = both.1 in
    let most : length block.txs ≤ 1024 = block.few in
    (omega (arith, count, total, most), both.0.each)

folded_few : (app : App) (chain : List SealedBlock) (blocks : List Block) → All IsFewBlock chain → All IsFewBlock (fold_from app chain blocks)
folded_few app chain [] few = few
folded_few app chain (block ∷ rest) few = folded_few app (chain ++ seal app chain block ∷ []) rest (All-push IsFewBlock chain (seal app chain block) few (sealed_few app chain block))

placed_few : (committed : List Committed) → All HasFew committed → length (placed_of committed) ≤ 100000 * length committed
placed_few [] few = omega arith
placed_few (done ∷ rest) few =
    let own : length done.writes ≤ 100000 = All-head HasFew done rest few in
    let others = placed_few rest (All-tail HasFew done rest few) in
    let both = length-append (map (λ (write : Write). record { pos = done.pos; write = write }) done.writes) (placed_of rest) in
    let same = length-map {B = Placed} done.writes (λ (write : Write). record { pos = done.pos; write = write }) in
    omega (arith, own, others, both, same)

-- ---- what each of them is

-- what holds of all writes of a chain holds of those of each block
abbrev AreShort : SealedBlock → Type 0
AreShort block = All IsFewWrite (placed_of block.committed)

first_part : {A : Type 0} (P : A → Type 0) (xs ys : List A) → All P (xs ++ ys) → All P xs
first_part P [] ys all = All-nil P
first_part P (x ∷ xs) ys all = All-cons P x xs (All-head P x (xs ++ ys) all) (first_part P xs ys (All-tail P x (xs ++ ys) all))

last_part : {A : Type 0} (P : A → Type 0) (xs ys : List A) → All P (xs ++ ys) → All P ys
last_part P [] ys all = all
last_part P (x ∷ xs) ys all = last_part P xs ys (All-tail P x (xs ++ ys) all)

unstamped : (tables : List TableDef) → All IsSmall tables → (number : ℕ) (writes : List Placed) → HistoryFits tables (map (λ (placed : Placed). (number, placed)) writes) → All IsFewWrite writes
unstamped tables small number [] fits = All-nil IsFewWrite
unstamped tables small number (placed ∷ rest) fits =
    let Fits : Stamped → Type 0 = λ stamped. WriteFitsIn tables stamped.1.write in
    All-cons IsFewWrite placed rest
    (fitting_few tables small placed.pos placed.write (All-head Fits (number, placed) (map (λ (p : Placed). (number, p)) rest) fits))
    (unstamped tables small number rest (All-tail Fits (number, placed) (map (λ (p : Placed). (number, p)) rest) fits))

blocks_short : (tables : List TableDef) → All IsSmall tables → (chain : List SealedBlock) → HistoryFits tables (history_of chain) → All AreShort chain
blocks_short tables small [] fits = All-nil AreShort
blocks_short tables small (block ∷ rest) fits =
    let Fits : Stamped → Type 0 = λ stamped. WriteFitsIn tables stamped.1.write in
    All-cons AreShort block rest (unstamped tables small block.number (placed_of block.committed) (first_part Fits (stamped_of block) (history_of rest) fits))
    (blocks_short tables small rest (last_part Fits (stamped_of block) (history_of rest) fits))

-- ---- both, of results

results_few : (tables : List TableDef) (previous : List ℕ) (chain : List SealedBlock) → All IsFewBlock chain → All AreShort chain → All HasFewWrites (results_from tables previous chain)
results_few tables previous [] few short = All-nil HasFewWrites
results_few tables previous (block ∷ rest) few short =
    let own = All-head IsFewBlock block rest few in
    let most = own.0 in
    let count = placed_few block.committed own.1 in
    All-cons HasFewWrites (block_result tables previous block) (results_from tables (block_result tables previous block).digest rest)
    (record { count = omega (arith, count, most); rows = All-head AreShort block rest short })
    (results_few tables (block_result tables previous block).digest rest (All-tail IsFewBlock block rest few) (All-tail AreShort block rest short))

-- of the results that a node of one thread holds
pub few_held : (own checked : Checked) (blocks : List Block) (tables : List TableDef) (history : List Stamped) (ids : IdIndex) (results told : List BlockResult)
    → own ≡ checked → told ≡ results → StoreFits own.app tables history results → HoldsFold checked.app blocks history ids results → All HasFewWrites told
few_held own checked blocks tables history ids results told same is store holds =
    let fitting : StoreFits checked.app tables history results = subst (λ (app : Checked). StoreFits app.app tables history results) same store in
    let fits : HistoryFits (tables_of checked.app) (history_of (fold checked.app blocks)) = subst (HistoryFits (tables_of checked.app)) holds.chain.writes (subst (λ defs. HistoryFits defs history) fitting.declared fitting.fits) in
    subst (All HasFewWrites) (sym (is ∙ holds.chain.results))
    (results_few (tables_of checked.app) no_digest (fold checked.app blocks) (folded_few checked.app [] blocks (All-nil IsFewBlock))
    (blocks_short (tables_of checked.app) (small_tables checked.app checked.well_typed) (fold checked.app blocks) fits))
