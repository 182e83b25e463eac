-- A chain that grows by a block.
use Rattle.std.proofs.Common.{List, [], ap, length, map, refl, suc, sym, ◌++◌, ◌∙◌, ◌≡◌, ◌∷◌, ℕ}
use Rattle.std.proofs.lemmas.List.{map-append}
use Rattle.std.proofs.lemmas.Simd.{map-map}
use Rattle.node_model.specs.Fold.{block_result, digest_after, no_digest, results_from, results_of}
use Rattle.node_model.specs.History.{SealedBlock, placed_of}
use Rattle.node_model.specs.declared.result.Committed.{Committed}
use Rattle.block_work.specs.Chain.{stamps}
use Rattle.block_work.specs.Results.{last_digest}
use Rattle.rel_base.specs.declared.schema.TableDef.{TableDef}

-- the stamps of committed transactions are those of the definition
pub stamps_placed : (number : ℕ) (committed : List Committed) → stamps number committed ≡ map (λ placed. (number, placed)) (placed_of committed)
stamps_placed number [] = refl
stamps_placed number (done ∷ rest) =
    ap (λ writes. writes ++ stamps number rest) (sym (map-map (λ placed. (number, placed)) (λ write. record { pos = done.pos; write = write }) done.writes))
    ∙ ap (λ writes. map (λ placed. (number, placed)) (map (λ write. record { pos = done.pos; write = write }) done.writes) ++ writes) (stamps_placed number rest)
    ∙ sym (map-append (λ placed. (number, placed)) (map (λ write. record { pos = done.pos; write = write }) done.writes) (placed_of rest))

-- the results of a chain with one block more
results_from_grown : (tables : List TableDef) (previous : List ℕ) (chain : List SealedBlock) (block : SealedBlock)
    → results_from tables previous (chain ++ block ∷ []) ≡ results_from tables previous chain ++ block_result tables (digest_after previous (results_from tables previous chain)) block ∷ []
results_from_grown tables previous [] block = refl
results_from_grown tables previous (first ∷ chain) block =
    ap (λ rest. block_result tables previous first ∷ rest) (results_from_grown tables (block_result tables previous first).digest chain block)

pub results_grown : (tables : List TableDef) (chain : List SealedBlock) (block : SealedBlock) → results_of tables (chain ++ block ∷ []) ≡ results_of tables chain ++ block_result tables (last_digest (results_of tables chain)) block ∷ []
results_grown tables chain block = results_from_grown tables no_digest chain block

pub results_length : (tables : List TableDef) (previous : List ℕ) (chain : List SealedBlock) → length (results_from tables previous chain) ≡ length chain
results_length tables previous [] = refl
results_length tables previous (block ∷ rest) = ap suc (results_length tables (block_result tables previous block).digest rest)
