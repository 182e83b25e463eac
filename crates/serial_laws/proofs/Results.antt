-- The results that are reported of a chain, and the orders in them.
use Rattle.std.proofs.Common.{List, None, Some, [], ap, append_assoc, arith, length, refl, subst, sym, ◌++◌, ◌+◌, ◌∙◌, ◌≡◌, ◌∷◌, ℕ}
use Rattle.node_model.specs.Edges.{edge}
use Rattle.node_model.specs.Fold.{block_result, fold, fold_from, no_digest, results_from, results_of, seal}
use Rattle.node_model.specs.History.{SealedBlock, snapshot}
use Rattle.node_model.specs.Order.{order, serial_order}
use Rattle.node_model.specs.declared.result.BlockResult.{BlockResult}
use Rattle.node_model.specs.declared.result.Committed.{Committed}
use Rattle.proc_syntax.specs.Declaring.{tables_of}
use Rattle.proc_syntax.specs.declared.call.Block.{Block}
use Rattle.proc_syntax.specs.declared.tree.App.{App}
use Rattle.rel_base.specs.declared.schema.TableDef.{TableDef}
use Rattle.serial_laws.proofs.Admitted.{positions_are_listed}
use Rattle.serial_laws.proofs.Growing.{committed_are_admitted, committed_are_recorded, committed_end_well, the_order_replays}
use Rattle.serial_laws.specs.Chained.{AreNumbered, IsNext}
use Rattle.serial_laws.specs.InOrder.{RunInOrder}
use Rattle.serial_laws.specs.Laws.{ResultsRun, TheOrderRuns}
use Rattle.serial_laws.specs.Replay.{own_run, tx_at}
use Rattle.std.proofs.lemmas.List.{append-nil, length-append}
use Rattle.std.proofs.lemmas.Simd.{map-map}
use Rattle.std.specs.Option.{IsSomeAnd}
use Rattle.std.specs.Prelude.{Option, slice_get}

pub the_order_runs : TheOrderRuns
the_order_runs app blocks block next =
    let committed : List Committed = (seal app (fold app blocks) block).committed in
    let ordered : List Committed = order (edge (tables_of app)) committed in
    record {
      listed = positions_are_listed app.exact (tables_of app) committed (committed_are_admitted app blocks block next);
      replayed = the_order_replays app blocks block next
          ∙ ap (λ runs. record { runs = runs; tables = snapshot block.number (fold app (blocks ++ block ∷ [])) })
          (sym (map-map (λ pos. own_run app (fold app blocks) (tx_at block.txs pos)) (λ (done : Committed). done.pos) ordered));
      recorded = committed_are_recorded app blocks block next;
      good = committed_end_well app blocks block next;
    }

-- ---- the results of a chain, block by block

-- one block more
fold_grows : (app : App) (chain : List SealedBlock) (blocks : List Block) → (more : List SealedBlock) × (fold_from app chain blocks ≡ chain ++ more)
fold_grows app chain [] = ([], sym (append-nil chain))
fold_grows app chain (block ∷ rest) =
    let next = fold_grows app (chain ++ seal app chain block ∷ []) rest in
    (seal app chain block ∷ next.0, next.1 ∙ append_assoc chain (seal app chain block ∷ []) next.0)

fold_append : (app : App) (chain : List SealedBlock) (before after : List Block) → fold_from app chain (before ++ after) ≡ fold_from app (fold_from app chain before) after
fold_append app chain [] after = refl
fold_append app chain (block ∷ before) after = fold_append app (chain ++ seal app chain block ∷ []) before after

fold_length : (app : App) (chain : List SealedBlock) (blocks : List Block) → length (fold_from app chain blocks) ≡ length chain + length blocks
fold_length app chain [] = omega arith
fold_length app chain (block ∷ rest) =
    let rest_is = fold_length app (chain ++ seal app chain block ∷ []) rest in
    let one = length-append chain (seal app chain block ∷ []) in
    omega (arith, rest_is, one)

-- the result that is reported of a block has its serial order
told_at : (tables : List TableDef) (previous : List ℕ) (before : List SealedBlock) (block : SealedBlock) (after : List SealedBlock)
    → IsSomeAnd (slice_get (results_from tables previous (before ++ block ∷ after)) (length before)) (λ told. told.order ≡ serial_order tables block.committed)
told_at tables previous [] block after = refl
told_at tables previous (first ∷ before) block after = told_at tables (block_result tables previous first).digest before block after

some_weaker : {X : Type 0} {P Q : X → Type 0} (found : Option X) → ((x : X) → P x → Q x) → IsSomeAnd found P → IsSomeAnd found Q
some_weaker (Some x) weaker holds = weaker x holds
some_weaker None weaker holds = holds

numbered_at : (number : ℕ) (before : List Block) (block : Block) (after : List Block) → AreNumbered number (before ++ block ∷ after) → AreNumbered number before × (block.number ≡ number + length before)
numbered_at number [] block after are = (tt, omega (arith, are.0))
numbered_at number (first ∷ before) block after are =
    let rest = numbered_at (number + 1) before block after are.1 in
    let next = rest.1 in
    ((are.0, rest.0), omega (arith, next))

-- the result that is reported of the next block, whatever is reported after it
pub runs_at : (app : App) (blocks : List Block) (block : Block) (more : List SealedBlock) → IsNext blocks block
    → IsSomeAnd (slice_get (results_of (tables_of app) (fold app blocks ++ seal app (fold app blocks) block ∷ more)) (length blocks)) (λ told. RunInOrder app blocks block told.order)
runs_at app blocks block more next =
    let tables : List TableDef = tables_of app in
    let chain : List SealedBlock = fold app blocks in
    let told : List BlockResult = results_of tables (chain ++ seal app chain block ∷ more) in
    let counted = fold_length app [] blocks in
    let long : length chain ≡ length blocks = omega (arith, counted) in
    some_weaker (slice_get told (length blocks))
    (λ one same. subst (RunInOrder app blocks block) (sym same) (the_order_runs app blocks block next))
    (subst (λ n. IsSomeAnd (slice_get told n) (λ one. one.order ≡ serial_order tables (seal app chain block).committed)) long (told_at tables no_digest chain (seal app chain block) more))

pub results_run : ResultsRun
results_run app blocks numbered before block after is =
    let chain : List SealedBlock = fold app before in
    let here = numbered_at 1 before block after (subst (AreNumbered 1) is numbered) in
    let number = here.1 in
    let more = fold_grows app (chain ++ seal app chain block ∷ []) after in
    let whole : fold app blocks ≡ chain ++ seal app chain block ∷ more.0 =
    ap (fold app) is ∙ fold_append app [] before (block ∷ after) ∙ more.1 ∙ append_assoc chain (seal app chain block ∷ []) more.0 in
    subst (λ sealed. IsSomeAnd (slice_get (results_of (tables_of app) sealed) (length before)) (λ told. RunInOrder app before block told.order)) (sym whole)
    (runs_at app before block more.0 (record { before = here.0; next = omega (arith, number) }))
