-- The calls of drawn transactions: a procedure by a draw below ten, and its arguments by the draws after it, from left to right.
use Rattle.load_gen.specs.Drawing.{draw}
use Rattle.load_gen.specs.declared.calls.CallKind.TheVariants.{Add, Both, Pay, Remove, Sweep}
use Rattle.load_gen.specs.declared.calls.CallKind.{CallKind}
use Rattle.rel_base.specs.declared.value.Value.TheVariants as value
use Rattle.rel_base.specs.declared.value.Value.{Value}
use Rattle.std.specs.Prelude.{List, [], codes, cond, decimal, nat_lt, pos, ◌+◌, ◌++◌, ◌==◌, ◌∷◌, ℕ}

-- the kind of a call, by a draw below ten
abbrev pub kind_of : ℕ → CallKind
kind_of drawn = cond (nat_lt drawn 6) Pay (cond (drawn == 6) Both (cond (drawn == 7) Sweep (cond (drawn == 8) Add Remove)))

abbrev pub procedure_of : CallKind → List ℕ
procedure_of Pay = codes "pay"
procedure_of Both = codes "both"
procedure_of Sweep = codes "sweep"
procedure_of Add = codes "add"
procedure_of Remove = codes "remove"

-- an amount of money
abbrev pub amount : ℕ → Value
amount money = value.Int (pos money)

-- the number of an account, by a draw: accounts are numbered from 1
abbrev pub account : ℕ → Value
account drawn = value.Int (pos (drawn + 1))

-- the name of an owner, by a draw: `o` and its digits
abbrev pub owner : ℕ → Value
owner drawn = value.Text (codes "o" ++ decimal drawn)

-- the arguments of a call, by the draws from a state on
abbrev pub arguments : CallKind → ℕ → List Value
arguments Pay state = account (draw state 1 64) ∷ account (draw state 2 64) ∷ amount (draw state 3 40) ∷ []
arguments Both state = account (draw state 1 64) ∷ account (draw state 2 64) ∷ amount (draw state 3 150) ∷ []
arguments Sweep state = owner (draw state 1 8) ∷ account (draw state 2 64) ∷ []
arguments Add state = account (draw state 1 128) ∷ owner (draw state 2 8) ∷ amount 100 ∷ []
arguments Remove state = account (draw state 1 64) ∷ []

-- how many draws these are
abbrev pub argument_draws : CallKind → ℕ
argument_draws Pay = 3
argument_draws Both = 3
argument_draws Sweep = 2
argument_draws Add = 2
argument_draws Remove = 1
