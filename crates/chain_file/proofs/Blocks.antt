-- A block that the code makes is the one that is meant.
use Rattle.std.proofs.Common.{◌≡◌, ◌≤◌, ◌<◌, ℕ, pos, List, ◌∷◌, ◌++◌, Bool, true, false, Option, Some, None, length, refl, sym, ◌∙◌, ap, subst, arith}
use Rattle.std.specs.Prelude.{ℤ, nat_le, int_le}
use Rattle.std.proofs.Math.Dec.{leb-zero}
use Rattle.std.proofs.lemmas.Bool.{le-leb, leb-true, both_ways}
use Rattle.proc_syntax.specs.declared.call.Tx.{Tx}
use Rattle.proc_syntax.specs.declared.call.Block.{Block}
use Rattle.proc_syntax.proofs.Blocks.{block, same_facts}
use Rattle.chain_file.specs.Blocks.{block_if, block_of}
use Rattle.chain_file.specs.Chain.{ended_blocks}

-- no natural number is negative
pub not_below : (n : ℕ) → int_le (pos 0) (pos n) ≡ true
not_below n = leb-zero n

made : (number time : ℕ) (txs : List Tx) (few : length txs ≤ 1024) (fine : int_le (pos 0) (pos time) ≡ true) (test : Bool) (e : nat_le (length txs) 1024 ≡ test)
    → block_if number time txs test e ≡ Some (block number (pos time) txs few fine)
made number time txs few fine true e = ap (λ b. Some b) (same_facts number (pos time) txs (leb-true (length txs) 1024 e) few (leb-zero time) fine)
made number time txs few fine false e = absurd (both_ways (nat_le (length txs) 1024) e (le-leb (length txs) 1024 few))

made_now : (number time : ℕ) (txs : List Tx) (few : length txs ≤ 1024) (fine : int_le (pos 0) (pos time) ≡ true) → block_of number time txs ≡ Some (block number (pos time) txs few fine)
unfolding block_of
made_now number time txs few fine = made number time txs few fine (nat_le (length txs) 1024) refl

made_time : (number time : ℕ) (z : ℤ) (txs : List Tx) (few : length txs ≤ 1024) (fine : int_le (pos 0) z ≡ true) → pos time ≡ z → block_of number time txs ≡ Some (block number z txs few fine)
made_time number time z txs few fine e =
    subst (λ (t : ℤ). (g : int_le (pos 0) t ≡ true) → block_of number time txs ≡ Some (block number t txs few g)) e (made_now number time txs few) fine

made_txs : (number time : ℕ) (z : ℤ) (txs xs : List Tx) (few : length xs ≤ 1024) (fine : int_le (pos 0) z ≡ true) → pos time ≡ z → txs ≡ xs → block_of number time txs ≡ Some (block number z xs few fine)
made_txs number time z txs xs few fine e same =
    subst (λ (ys : List Tx). (f : length ys ≤ 1024) → block_of number time txs ≡ Some (block number z ys f fine)) same (λ f. made_time number time z txs f fine e) few

pub made_block : (number time : ℕ) (txs : List Tx) (b : Block) → b.number ≡ number → b.time ≡ pos time → b.txs ≡ txs → block_of number time txs ≡ Some b
made_block number time txs b n t xs = ap (λ k. block_of k time txs) (sym n) ∙ made_txs b.number time b.time txs b.txs b.few b.not_negative (sym t) (sym xs)

none : (number time : ℕ) (txs : List Tx) → 1024 < length txs → (test : Bool) (e : nat_le (length txs) 1024 ≡ test) → block_if number time txs test e ≡ None
none number time txs many true e = absurd (omega (arith, many, leb-true (length txs) 1024 e))
none number time txs many false e = refl

pub no_block : (number time : ℕ) (txs : List Tx) → 1024 < length txs → block_of number time txs ≡ None
unfolding block_of
no_block number time txs many = none number time txs many (nat_le (length txs) 1024) refl

-- few transactions make a block
pub some_block : (number time : ℕ) (txs : List Tx) → length txs ≤ 1024 → (made : Block) × (block_of number time txs ≡ Some made)
some_block number time txs few = (block number (pos time) txs few (not_below time), made_now number time txs few (not_below time))

-- what is found is so
abbrev pub Holds : {A : Type 0} → (A → Type 0) → Option A → Type 0
Holds P None = Unit {0}
Holds P (Some x) = P x

-- a block of a number, a time and transactions
abbrev pub IsOf : ℕ → ℕ → List Tx → Block → Type 0
IsOf number time txs block = (block.number ≡ number) × (block.time ≡ pos time) × (block.txs ≡ txs)

of_if : (number time : ℕ) (txs : List Tx) (few : Bool) (e : nat_le (length txs) 1024 ≡ few) → Holds (IsOf number time txs) (block_if number time txs few e)
of_if number time txs true e = (refl, refl, refl)
of_if number time txs false e = tt

pub block_is : (number time : ℕ) (txs : List Tx) → Holds (IsOf number time txs) (block_of number time txs)
unfolding block_of
block_is number time txs = of_if number time txs (nat_le (length txs) 1024) refl

-- a block that is made in the place of one
pub blocks_made : (number time : ℕ) (txs : List Tx) (b : Block) (following : List Block) → block_of number time txs ≡ Some b → ended_blocks (block_of number time txs) ++ following ≡ b ∷ following
blocks_made number time txs b following is = ap (λ made. ended_blocks made ++ following) is
