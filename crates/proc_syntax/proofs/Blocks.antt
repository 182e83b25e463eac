-- Blocks that are the same.
use Rattle.std.proofs.Common.{List, ap, length, subst, true, ◌∙◌, ◌≡◌, ℕ}
use Rattle.std.proofs.Math.Bool.{Bool-set}
use Rattle.std.proofs.Math.Bridge.{le_prop}
use Rattle.std.specs.Prelude.{int_le, pos, ◌≤◌, ℤ}
use Rattle.proc_syntax.specs.declared.call.Block.{Block}
use Rattle.proc_syntax.specs.declared.call.Tx.{Tx}

-- a block of its parts
abbrev pub block : (number : ℕ) (time : ℤ) (txs : List Tx) → length txs ≤ 1024 → int_le (pos 0) time ≡ true → Block
block number time txs few fine = record { number = number; time = time; txs = txs; few = few; not_negative = fine }

-- the facts of a block do not tell two blocks apart
pub same_facts : (number : ℕ) (time : ℤ) (txs : List Tx) (few less : length txs ≤ 1024) (fine good : int_le (pos 0) time ≡ true) → block number time txs few fine ≡ block number time txs less good
same_facts number time txs few less fine good =
    let one : IsProp (length txs ≤ 1024) = hlevel (le_prop, Bool-set) in
    let two : IsProp (int_le (pos 0) time ≡ true) = hlevel (le_prop, Bool-set) in
    ap (λ (f : length txs ≤ 1024). block number time txs f fine) (one few less) ∙ ap (λ (g : int_le (pos 0) time ≡ true). block number time txs less g) (two fine good)

-- two blocks with the same number, time and transactions are the same
pub same_block : (one two : Block) → one.number ≡ two.number → one.time ≡ two.time → one.txs ≡ two.txs → one ≡ two
same_block one two number time txs =
    subst (λ (n : ℕ). one ≡ block n two.time two.txs two.few two.not_negative) number
    (subst (λ (t : ℤ). (g : int_le (pos 0) t ≡ true) → one ≡ block one.number t two.txs two.few g) time
    (λ g. subst (λ (xs : List Tx). (f : length xs ≤ 1024) → one ≡ block one.number one.time xs f g) txs (λ f. same_facts one.number one.time one.txs one.few f one.not_negative g) two.few) two.not_negative)
