-- The results of a fold: their numbers, the positions of their writes, and their history.
use Rattle.std.proofs.Common.{◌≡◌, ◌∙◌, ◌≤◌, ◌+◌, List, [], ◌∷◌, ◌++◌, ℕ, All, refl, sym, subst, ap, map, length, arith, append_assoc, length-append}
use Rattle.std.proofs.lemmas.List.{append-nil, map-append}
use Rattle.std.proofs.lemmas.List.Elements.{All-append, All-cons, All-head, All-map, All-nil, All-push, All-tail, All-weaker}
use Rattle.node_model.specs.Decide.{decide, run_at}
use Rattle.node_model.specs.Fold.{Work, block_result, fold, fold_from, join_committed, no_digest, no_work, results_from, results_of, seal, work_on, work_through}
use Rattle.node_model.specs.History as node
use Rattle.node_model.specs.History.{SealedBlock, placed_of, stamped_of}
use Rattle.node_model.specs.declared.outcome.Outcome.TheVariants as outcome
use Rattle.node_model.specs.declared.outcome.Outcome.{Outcome}
use Rattle.node_model.specs.declared.result.Committed.{Committed}
use Rattle.proc_syntax.specs.Declaring.{tables_of}
use Rattle.proc_syntax.specs.declared.call.Block.{Block}
use Rattle.proc_syntax.specs.declared.call.Tx.{Tx}
use Rattle.proc_syntax.specs.declared.run.Ran.{Ran}
use Rattle.proc_syntax.specs.declared.tree.App.{App}
use Rattle.provenance.proofs.Placed.{places_told}
use Rattle.provenance.specs.Laws.{FoldsAreTold, HasPlaces, HistoriesAreTold, RunFromOne}
use Rattle.provenance.specs.Versions.{history_of}
use Rattle.rel_base.specs.declared.access.Placed.{Placed}
use Rattle.rel_base.specs.declared.access.Write.{Write}
use Rattle.rel_base.specs.declared.schema.TableDef.{TableDef}

-- ---- positions

-- a committed transaction stands at a position up to a number
abbrev IsWithin : ℕ → Committed → Type 0
IsWithin count done = (1 ≤ done.pos) × (done.pos ≤ count)

within_more : (count : ℕ) (committed : List Committed) → All (IsWithin count) committed → All (IsWithin (count + 1)) committed
within_more count committed within = All-weaker (IsWithin count) (IsWithin (count + 1)) (λ done at. (at.0, omega (arith, at.1))) committed within

joined_within : (count : ℕ) (committed : List Committed) (ran : Ran) (found : Outcome) → All (IsWithin count) committed → All (IsWithin (count + 1)) (join_committed committed (count + 1) ran found)
joined_within count committed ran outcome.Committed within =
    All-push (IsWithin (count + 1)) committed (record { pos = count + 1; reads = ran.reads; writes = ran.writes }) (within_more count committed within) (omega arith, omega arith)
joined_within count committed ran _ within = within_more count committed within

-- the committed transactions of a block in work stand at positions of its transactions
abbrev HasPositions : Work → Type 0
HasPositions work = All (IsWithin (length work.outcomes)) work.committed

worked : (app : App) (chain : List SealedBlock) (number : ℕ) (work : Work) (txs : List Tx) → HasPositions work → HasPositions (work_through app chain number work txs)
worked app chain number work [] has = has
worked app chain number work (tx ∷ rest) has =
    let found = decide app chain number work.outcomes work.committed tx in
    let longer : length (work.outcomes ++ record { id = tx.id; outcome = found } ∷ []) ≡ length work.outcomes + 1 = length-append work.outcomes (record { id = tx.id; outcome = found } ∷ []) in
    worked app chain number (work_on app chain number work tx) rest
    (subst (λ count. All (IsWithin count) (join_committed work.committed (length work.outcomes + 1) (run_at app chain tx) found)) (sym longer)
    (joined_within (length work.outcomes) work.committed (run_at app chain tx) found has))

abbrev AreWithin : SealedBlock → Type 0
AreWithin block = All (IsWithin (length block.outcomes)) block.committed

folded_within : (app : App) (chain : List SealedBlock) (blocks : List Block) → All AreWithin chain → All AreWithin (fold_from app chain blocks)
folded_within app chain [] within = within
folded_within app chain (block ∷ rest) within =
    folded_within app (chain ++ seal app chain block ∷ []) rest
    (All-push AreWithin chain (seal app chain block) within (worked app chain block.number no_work block.txs (All-nil (IsWithin 0))))

-- the same of the writes
placed_within : (count : ℕ) (committed : List Committed) → All (IsWithin count) committed → All (λ (placed : Placed). (1 ≤ placed.pos) × (placed.pos ≤ count)) (placed_of committed)
placed_within count [] within = All-nil (λ (placed : Placed). (1 ≤ placed.pos) × (placed.pos ≤ count))
placed_within count (done ∷ rest) within =
    let P : Placed → Type 0 = λ placed. (1 ≤ placed.pos) × (placed.pos ≤ count) in
    let at = All-head (IsWithin count) done rest within in
    All-append P (map (λ write. record { pos = done.pos; write = write }) done.writes) (placed_of rest)
    (All-map P (λ (write : Write). record { pos = done.pos; write = write }) done.writes (λ k d below. at)) (placed_within count rest (All-tail (IsWithin count) done rest within))

-- ---- results

module _ (tables : List TableDef) where
  results_placed : (previous : List ℕ) (chain : List SealedBlock) → All AreWithin chain → All HasPlaces (results_from tables previous chain)
  results_placed previous [] within = All-nil HasPlaces
  results_placed previous (block ∷ rest) within =
      All-cons HasPlaces (block_result tables previous block) (results_from tables (block_result tables previous block).digest rest)
      (placed_within (length block.outcomes) block.committed (All-head AreWithin block rest within))
      (results_placed (block_result tables previous block).digest rest (All-tail AreWithin block rest within))

  result_numbers : (previous : List ℕ) (chain : List SealedBlock) → map (λ block. block.number) (results_from tables previous chain) ≡ map (λ block. block.number) chain
  result_numbers previous [] = refl
  result_numbers previous (block ∷ rest) = ap (λ numbers. block.number ∷ numbers) (result_numbers (block_result tables previous block).digest rest)

  told_history : (previous : List ℕ) (chain : List SealedBlock) → history_of (results_from tables previous chain) ≡ node.history_of chain
  told_history previous [] = refl
  told_history previous (block ∷ rest) = ap (λ writes. stamped_of block ++ writes) (told_history (block_result tables previous block).digest rest)

pub histories_told : HistoriesAreTold
histories_told tables chain = told_history tables no_digest chain

-- ---- numbers

fold_numbers : (app : App) (chain : List SealedBlock) (blocks : List Block) → map (λ block. block.number) (fold_from app chain blocks) ≡ map (λ block. block.number) chain ++ map (λ block. block.number) blocks
fold_numbers app chain [] = sym (append-nil (map (λ block. block.number) chain))
fold_numbers app chain (block ∷ rest) =
    fold_numbers app (chain ++ seal app chain block ∷ []) rest
    ∙ ap (λ numbers. numbers ++ map (λ (b : Block). b.number) rest) (map-append (λ (b : SealedBlock). b.number) chain (seal app chain block ∷ []))
    ∙ append_assoc (map (λ (b : SealedBlock). b.number) chain) (block.number ∷ []) (map (λ (b : Block). b.number) rest)

-- the results of blocks have their numbers
pub results_numbered : (app : App) (blocks : List Block) → map (λ block. block.number) (results_of (tables_of app) (fold app blocks)) ≡ map (λ block. block.number) blocks
results_numbered app blocks = result_numbers (tables_of app) no_digest (fold app blocks) ∙ fold_numbers app [] blocks

pub folds_told : FoldsAreTold
folds_told app blocks numbers =
    places_told (results_of (tables_of app) (fold app blocks)) (subst RunFromOne (sym (results_numbered app blocks)) numbers)
    (results_placed (tables_of app) no_digest (fold app blocks) (folded_within app [] blocks (All-nil AreWithin)))
