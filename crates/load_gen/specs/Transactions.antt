-- The transactions of the load of a number, which are numbered from 1: 64 that open accounts, and then those that are drawn.
use Rattle.load_gen.specs.Calling.{amount, argument_draws, arguments, kind_of, owner, procedure_of}
use Rattle.load_gen.specs.Drawing.{draw, step, steps}
use Rattle.load_gen.specs.declared.calls.CallKind.{CallKind}
use Rattle.proc_syntax.specs.declared.call.Tx.{Tx}
use Rattle.std.specs.Prelude.{List, [], codes, decimal, max, suc, zero, ◌%◌, ◌+◌, ◌++◌, ◌-◌, ◌/◌, ◌∷◌, ℕ}

-- `l` and the number
abbrev pub id_of : ℕ → List ℕ
id_of n = codes "l" ++ decimal n

-- the account of the number is made, of one of eight owners and with an amount of 100
abbrev pub opening_tx : ℕ → Tx
opening_tx n = record { id = id_of n; height = 0; procedure = codes "add"; args = amount n ∷ owner (n % 8) ∷ amount 100 ∷ [] }

-- ---- drawn transactions

-- the kind of a drawn transaction, by the state before its draws
abbrev pub drawn_kind : ℕ → CallKind
drawn_kind state = kind_of (draw state 1 10)

-- how many draws it takes: one for its kind, those of its arguments, and one for its height
abbrev pub draws_of : ℕ → ℕ
draws_of state = argument_draws (drawn_kind state) + 2

-- the number of the block in which it stands: 50 stand in each, from number 65 and block 2 on
abbrev pub block_at : ℕ → ℕ
block_at n = (n - 65) / 50 + 2

-- its height: the block before its own, or one or two before that, but none before the first block
abbrev pub height_at : ℕ → ℕ → ℕ
height_at block back = max 1 (block - 1 - back)

-- a transaction by the state before its draws: its kind is drawn, then its arguments from left to right, and then how far back its height lies
abbrev pub drawn_tx : ℕ → ℕ → Tx
drawn_tx n state = record {
  id = id_of n;
  height = height_at (block_at n) (draw state (draws_of state) 3);
  procedure = procedure_of (drawn_kind state);
  args = arguments (drawn_kind state) (step state);
}

-- the state after the draws of some transactions, one after another
abbrev pub state_after : ℕ → ℕ → ℕ
state_after zero state = state
state_after (suc count) state = let before : ℕ = state_after count state in steps (draws_of before) before

-- ---- the load of a number

-- the state before the draws of a transaction: the number of the load is the state at first, and the first 64 transactions are not drawn
unfoldable pub state_before : ℕ → ℕ → ℕ
state_before number n = state_after (n - 65) number

-- the drawn transaction of a number, from 65 on, in the load of a number
unfoldable pub load_tx : ℕ → ℕ → Tx
load_tx number n = drawn_tx n (state_before number n)
