-- The digests of the fold of blocks begin with those of the fold of the first of them.
use Rattle.std.proofs.Common.{◌≡◌, ◌<◌, ◌+◌, ℕ, zero, suc, List, [], ◌∷◌, ◌++◌, Bool, true, false, length, drop, take, refl, sym, ◌∙◌, ap, arith, append_assoc, length-append}
use Rattle.std.specs.Prelude.{nat_lt, slice_get}
use Rattle.std.proofs.lemmas.Bool.{ltb-false, ltb-true}
use Rattle.std.proofs.lemmas.List.{append-nil, length-map, length-take-le, map-append, take-append-drop, take_all}
use Rattle.node_model.specs.Fold.{block_result, digest_after, fold, fold_from, no_digest, results_from, results_of, seal}
use Rattle.node_model.specs.History.{SealedBlock}
use Rattle.node_model.specs.declared.result.BlockResult.{BlockResult}
use Rattle.proc_syntax.specs.Declaring.{tables_of}
use Rattle.proc_syntax.specs.declared.call.Block.{Block}
use Rattle.proc_syntax.specs.declared.tree.App.{App}
use Rattle.rel_base.specs.declared.schema.TableDef.{TableDef}
use Rattle.checkpoint.specs.Folded.{digests_of_results, fold_digests}
use Rattle.checkpoint.specs.Laws.{FoldsAgree}

-- an item of the front
front_item : {A : Type 0} (front back : List A) (i : ℕ) → i < length front → slice_get (front ++ back) i ≡ slice_get front i
front_item [] back i inside = absurd (omega (arith, inside))
front_item (x ∷ front) back zero inside = refl
front_item (x ∷ front) back (suc i) inside = front_item front back i (omega (arith, inside))

pub fold_append : (app : App) (chain : List SealedBlock) (xs ys : List Block) → fold_from app chain (xs ++ ys) ≡ fold_from app (fold_from app chain xs) ys
fold_append app chain [] ys = refl
fold_append app chain (x ∷ xs) ys = fold_append app (chain ++ seal app chain x ∷ []) xs ys

pub fold_grows : (app : App) (chain : List SealedBlock) (blocks : List Block) → (more : List SealedBlock) × (fold_from app chain blocks ≡ chain ++ more)
fold_grows app chain [] = ([], sym (append-nil chain))
fold_grows app chain (block ∷ blocks) =
    let rest = fold_grows app (chain ++ seal app chain block ∷ []) blocks in
    (seal app chain block ∷ rest.0, rest.1 ∙ append_assoc chain (seal app chain block ∷ []) rest.0)

pub fold_length : (app : App) (chain : List SealedBlock) (blocks : List Block) → length (fold_from app chain blocks) ≡ length chain + length blocks
fold_length app chain [] = omega arith
fold_length app chain (block ∷ blocks) =
    let rest = fold_length app (chain ++ seal app chain block ∷ []) blocks in let one = length-append chain (seal app chain block ∷ []) in omega (arith, rest, one)

results_append : (tables : List TableDef) (previous : List ℕ) (xs ys : List SealedBlock)
    → results_from tables previous (xs ++ ys) ≡ results_from tables previous xs ++ results_from tables (digest_after previous (results_from tables previous xs)) ys
results_append tables previous [] ys = refl
results_append tables previous (x ∷ xs) ys = ap (λ rest. block_result tables previous x ∷ rest) (results_append tables (block_result tables previous x).digest xs ys)

pub results_length : (tables : List TableDef) (previous : List ℕ) (chain : List SealedBlock) → length (results_from tables previous chain) ≡ length chain
results_length tables previous [] = refl
results_length tables previous (block ∷ chain) = ap suc (results_length tables (block_result tables previous block).digest chain)

digests_grow : (app : App) (xs ys : List Block) → (more : List (List ℕ)) × (fold_digests app (xs ++ ys) ≡ fold_digests app xs ++ more)
digests_grow app xs ys =
    let grown = fold_grows app (fold app xs) ys in (
      digests_of_results (results_from (tables_of app) (digest_after no_digest (results_from (tables_of app) no_digest (fold app xs))) grown.0),
      ap (λ chain. digests_of_results (results_of (tables_of app) chain)) (fold_append app [] xs ys ∙ grown.1)
          ∙ ap digests_of_results (results_append (tables_of app) no_digest (fold app xs) grown.0)
          ∙ map-append (λ (block : BlockResult). block.digest) (results_from (tables_of app) no_digest (fold app xs))
          (results_from (tables_of app) (digest_after no_digest (results_from (tables_of app) no_digest (fold app xs))) grown.0),
    )

digests_length : (app : App) (blocks : List Block) → length (fold_digests app blocks) ≡ length blocks
digests_length app blocks =
    length-map (results_of (tables_of app) (fold app blocks)) (λ (block : BlockResult). block.digest) ∙ results_length (tables_of app) no_digest (fold app blocks)
    ∙ fold_length app [] blocks ∙ nothing (length blocks)
  where
    nothing : (n : ℕ) → 0 + n ≡ n
    nothing n = omega arith

-- a digest below a number of blocks is that of these blocks alone
front_digest : (app : App) (blocks : List Block) (same i : ℕ) → i < same → slice_get (fold_digests app blocks) i ≡ slice_get (fold_digests app (take same blocks)) i
front_digest app blocks same i below = by (nat_lt same (length blocks)) refl
  where
    by : (more : Bool) → nat_lt same (length blocks) ≡ more → slice_get (fold_digests app blocks) i ≡ slice_get (fold_digests app (take same blocks)) i
    by true e =
        let less = ltb-true same (length blocks) e in
        let grown = digests_grow app (take same blocks) (drop same blocks) in
        let long : length (fold_digests app (take same blocks)) ≡ same = digests_length app (take same blocks) ∙ length-take-le same blocks (omega (arith, less)) in
        ap (λ bs. slice_get (fold_digests app bs) i) (sym (take-append-drop same blocks)) ∙ ap (λ ds. slice_get ds i) grown.1
        ∙ front_item (fold_digests app (take same blocks)) grown.0 i (omega (arith, long, below))
    by false e = ap (λ bs. slice_get (fold_digests app bs) i) (sym (take_all same blocks (ltb-false same (length blocks) e)))

pub folds_agree : FoldsAgree
folds_agree app blocks others same zero e low = refl
folds_agree app blocks others same (suc i) e low =
    front_digest app blocks same i (omega (arith, low)) ∙ ap (λ bs. slice_get (fold_digests app bs) i) e ∙ sym (front_digest app others same i (omega (arith, low)))
