-- One more block.
use Rattle.std.proofs.Common.{◌<◌, ◌≡◌, ⊎_elim, ◌*◌, length-append, ℕ, ◌+◌, ◌≤◌, pos, List, [], ◌∷◌, ◌++◌, length, arith}
use Rattle.proc_syntax.specs.declared.call.Block.{Block}
use Rattle.std.specs.Int.{div_ceil}
use Rattle.std.proofs.lemmas.Bool.{cases_lt}
use Rattle.std.proofs.lemmas.Grind.{div_ceil_times, common_steps}
use Rattle.chain_file.specs.Numbered.{HaveNoTimes, NumberedFrom}
use Rattle.order_queue.specs.Blocks.{FilledBy, joined}
use Rattle.order_queue.specs.Filled.{AllFull}

pub numbered_end : (n : ℕ) (blocks : List Block) (block : Block) → NumberedFrom n blocks → block.number ≡ n + length blocks → NumberedFrom n (blocks ++ block ∷ [])
numbered_end n [] block h number = (omega arith, tt)
numbered_end n (b ∷ bs) block h number = (h.0, numbered_end (n + 1) bs block h.1 (omega arith))

pub times_end : (blocks : List Block) (block : Block) → HaveNoTimes blocks → block.time ≡ pos 0 → HaveNoTimes (blocks ++ block ∷ [])
times_end [] block h time = (time, tt)
times_end (b ∷ bs) block h time = (h.0, times_end bs block h.1 time)

pub full_end : (most : ℕ) (blocks : List Block) (block : Block) → AllFull most blocks → length block.txs ≡ most → AllFull most (blocks ++ block ∷ [])
full_end most [] block h e = (e, tt)
full_end most (b ∷ bs) block h e = (h.0, full_end most bs block h.1 e)

pub filled_all : (most : ℕ) (blocks : List Block) → 1 ≤ most → AllFull most blocks → FilledBy most blocks
filled_all most [] some h = tt
filled_all most (b ∷ []) some h = let e = h.0 in (omega arith, omega arith)
filled_all most (b ∷ c ∷ bs) some h = (h.0, filled_all most (c ∷ bs) some h.1)

pub filled_end : (most : ℕ) (blocks : List Block) (block : Block) → AllFull most blocks → 1 ≤ length block.txs → length block.txs ≤ most → FilledBy most (blocks ++ block ∷ [])
filled_end most [] block h some few = (some, few)
filled_end most (b ∷ []) block h some few = (h.0, (some, few))
filled_end most (b ∷ c ∷ bs) block h some few = (h.0, filled_end most (c ∷ bs) block h.1 some few)

-- how many transactions so many blocks have
filled_times : (most : ℕ) (blocks : List Block) → 1 ≤ most → FilledBy most blocks → (length (joined blocks) ≤ length blocks * most) × (length blocks * most < length (joined blocks) + most)
filled_times most [] some h = (grind arith, grind arith)
filled_times most (b ∷ []) some h = let one = length-append b.txs [] in let few = h.0 in let many = h.1 in (grind arith, grind arith)
filled_times most (b ∷ c ∷ bs) some h =
    let others = filled_times most (c ∷ bs) some h.1 in
    let all = length-append b.txs (joined (c ∷ bs)) in
    let full = h.0 in
    let more : length (b ∷ c ∷ bs) * most ≡ most + length (c ∷ bs) * most = grind arith in
    (omega arith, omega arith)

less : (a b most total : ℕ) → a < b → total ≤ a * most → b * most < total + most → ⊥
less a b most total below enough few = let more : (a + 1) * most ≤ b * most = grind (arith, common_steps) in let one : (a + 1) * most ≡ a * most + most = grind arith in absurd (omega arith)

-- how many blocks they are
pub filled_count : (most : ℕ) (blocks : List Block) (total : ℕ) → 1 ≤ most → FilledBy most blocks → length (joined blocks) ≡ total → length blocks ≡ div_ceil total most
filled_count most blocks total some h size =
    let here = filled_times most blocks some h in
    let there = div_ceil_times total most some in
    let n : ℕ = length blocks in
    let m : ℕ = div_ceil total most in
    let a : total ≤ n * most = omega arith in
    let b : n * most < total + most = omega arith in
    ⊎_elim (λ (l : n < m). absurd (less n m most total l a there.1)) (λ (l : m ≤ n). ⊎_elim (λ (k : m < n). absurd (less m n most total k there.0 b)) (λ (k : n ≤ m). omega arith) (cases_lt m n)) (cases_lt n m)
