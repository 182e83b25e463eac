-- The states of a load, from one drawn transaction to the next.
use Rattle.std.proofs.Common.{ap, arith, refl, suc, ◌+◌, ◌-◌, ◌≡◌, ◌≤◌, ℕ}
use Rattle.load_gen.specs.Drawing.{steps}
use Rattle.load_gen.specs.Laws.{HeightsLieBefore}
use Rattle.load_gen.specs.Transactions.{block_at, draws_of, drawn_tx, load_tx, state_after, state_before}
use Rattle.std.specs.Prelude.{max, ◌<◌}

pub load_tx_is : (load n : ℕ) → drawn_tx n (state_before load n) ≡ load_tx load n
unfolding load_tx
load_tx_is load n = refl

pub state_first : (load : ℕ) → load ≡ state_before load 65
unfolding state_before
state_first load = refl

pub state_next : (load n : ℕ) → 65 ≤ n → steps (draws_of (state_before load n)) (state_before load n) ≡ state_before load (n + 1)
unfolding state_before
state_next load n from = let next : suc (n - 65) ≡ n + 1 - 65 = omega (arith, from) in ap (λ count. state_after count load) next

between : (block back : ℕ) → 2 ≤ block → (1 ≤ max 1 (block - 1 - back)) × (max 1 (block - 1 - back) < block)
between block back from = (omega arith, omega (arith, from))

pub heights_lie_before : HeightsLieBefore
unfolding load_tx
heights_lie_before number n = between (block_at n) _ (omega arith)
