-- The time of the block of a height, by the results of blocks that are numbered from 1.
use Rattle.std.proofs.Common.{List, [], ap, arith, cond, false, refl, suc, sym, true, zero, ◌+◌, ◌-◌, ◌==◌, ◌∙◌, ◌≡◌, ◌≤◌, ◌∷◌, ℕ}
use Rattle.std.proofs.lemmas.Bool.Decides.{nat_tests}
use Rattle.std.specs.Prelude.{pos, slice_get}
use Rattle.block_work.specs.Chain.{ResultsFrom, time_of_result, time_or_none}
use Rattle.node_model.specs.Fold.{block_result, results_from, results_of, no_digest}
use Rattle.node_model.specs.History.{SealedBlock, time_at}
use Rattle.node_model.specs.declared.result.BlockResult.{BlockResult}
use Rattle.rel_base.specs.declared.schema.TableDef.{TableDef}

-- the results have the numbers and the times of the blocks
times_from : (tables : List TableDef) (previous : List ℕ) (height : ℕ) (chain : List SealedBlock) → time_of_result height (results_from tables previous chain) ≡ time_at height chain
times_from tables previous height [] = refl
times_from tables previous height (block ∷ rest) = ap (cond (block.number == height) block.time) (times_from tables (block_result tables previous block).digest height rest)

pub times_are : (tables : List TableDef) (height : ℕ) (chain : List SealedBlock) (results : List BlockResult) → results ≡ results_of tables chain → time_of_result height results ≡ time_at height chain
times_are tables height chain results are = ap (time_of_result height) are ∙ times_from tables no_digest height chain

time_below : (low height : ℕ) (results : List BlockResult) → ResultsFrom low results → height + 1 ≤ low → time_of_result height results ≡ pos 0
time_below low height [] are below = refl
time_below low height (block ∷ rest) are below =
    let named = are.0 in
    let differs : (block.number == height) ≡ false = grind (arith, nat_tests) in
    ap (λ b. cond b block.time (time_of_result height rest)) differs ∙ time_below (low + 1) height rest are.1 (omega (arith, below))

time_at_place : (low place height : ℕ) (results : List BlockResult) → ResultsFrom low results → height ≡ low + place → time_or_none (slice_get results place) ≡ time_of_result height results
time_at_place low zero height [] are here = refl
time_at_place low (suc place) height [] are here = refl
time_at_place low zero height (block ∷ rest) are here =
    let named = are.0 in
    let same : (block.number == height) ≡ true = grind (arith, nat_tests) in
    sym (ap (λ b. cond b block.time (time_of_result height rest)) same)
time_at_place low (suc place) height (block ∷ rest) are here =
    let named = are.0 in
    let differs : (block.number == height) ≡ false = grind (arith, nat_tests) in
    time_at_place (low + 1) place height rest are.1 (omega (arith, here)) ∙ sym (ap (λ b. cond b block.time (time_of_result height rest)) differs)

-- before the first block
pub time_before : (results : List BlockResult) → ResultsFrom 1 results → pos 0 ≡ time_of_result 0 results
time_before results are = sym (time_below 1 0 results are (omega arith))

-- the result of a height stands one place before it
pub time_of_height : (height : ℕ) (results : List BlockResult) → ResultsFrom 1 results → 1 ≤ height → time_or_none (slice_get results (height - 1)) ≡ time_of_result height results
time_of_height height results are above = time_at_place 1 (height - 1) height results are (omega (arith, above))
