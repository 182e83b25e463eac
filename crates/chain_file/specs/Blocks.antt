-- The block that the lines of a file spell.
use Rattle.std.specs.Prelude.{◌≡◌, ℕ, pos, List, length, Bool, true, false, nat_le, Option, Some, None, refl}
use Rattle.std.proofs.lemmas.Bool.{leb-true}
use Rattle.std.proofs.Math.Dec.{leb-zero}
use Rattle.proc_syntax.specs.declared.call.Tx.{Tx}
use Rattle.proc_syntax.specs.declared.call.Block.{Block}
use Rattle.proc_syntax.specs.Limits.{most_transactions}

-- by whether it has at most 1,024 transactions
abbrev pub block_if : (number time : ℕ) (txs : List Tx) (few : Bool) → nat_le (length txs) most_transactions ≡ few → Option Block
block_if number time txs true few = Some (record { number = number; time = pos time; txs = txs; few = leb-true (length txs) most_transactions few; not_negative = leb-zero time })
block_if number time txs false few = None

-- a block of this number and time, where it has at most 1,024 transactions
unfoldable pub block_of : ℕ → ℕ → List Tx → Option Block
block_of number time txs = block_if number time txs (nat_le (length txs) most_transactions) refl
