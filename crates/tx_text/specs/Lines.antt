-- Transaction lines.
use Rattle.std.specs.Prelude.{◌≡◌, ◌<◌, ◌≤◌, ◌^◌, true, ℕ, zero, suc, List, [], ◌∷◌, ◌++◌, length, cond, nat_le, Option, Some, None, codes, decimal}
use Rattle.std.specs.List.{flat_map, AllByRecursion}
use Rattle.std.specs.Option.{option_and_then, option_map}
use Rattle.rel_base.specs.Text.{has_id_form, has_name_form}
use Rattle.rel_base.specs.declared.value.Value.{Value}
use Rattle.proc_syntax.specs.declared.call.Tx.{Tx}
use Rattle.literals.specs.Number.{u64_at}
use Rattle.tx_text.specs.Fields.{is_space, after, id_at, name_at}
use Rattle.tx_text.specs.Values.{value_at, value_text, IsValue}
use Rattle.tx_text.specs.Parts.{most_line_bytes}

-- the argument at the start of the bytes, after a space
abbrev pub arg_at : List ℕ → Option (Value × List ℕ)
arg_at [] = None
arg_at (b ∷ bs) = cond (is_space b) (value_at bs) None

-- a first argument and those that follow
abbrev pub first_and_more : Option (Value × List ℕ) → (List ℕ → Option (List Value)) → Option (List Value)
first_and_more None more = None
first_and_more (Some found) more = option_map (λ values. found.0 ∷ values) (more found.1)

-- the arguments that the bytes spell, all of them, each after a space; at most n arguments
abbrev pub args_within : ℕ → List ℕ → Option (List Value)
args_within n [] = Some []
args_within zero (b ∷ bs) = None
args_within (suc n) (b ∷ bs) = first_and_more (arg_at (b ∷ bs)) (args_within n)

-- the arguments that the bytes spell; there are no more than bytes, since each takes some
abbrev pub args_of : List ℕ → Option (List Value)
args_of bytes = args_within (length bytes) bytes

-- `PROCEDURE` and the arguments
abbrev pub call_of : List ℕ → ℕ → List ℕ → Option Tx
call_of id height bytes = option_and_then (λ name. option_map (λ args. record { id = id; height = height; procedure = name.0; args = args }) (args_of name.1)) (name_at bytes)

-- `HEIGHT PROCEDURE` and the arguments
abbrev pub height_and_call : List ℕ → List ℕ → Option Tx
height_and_call id bytes = option_and_then (λ height. option_and_then (call_of id height.0) (after (codes " ") height.1)) (u64_at bytes)

-- `tx ID HEIGHT PROCEDURE` and the arguments, with one space between two fields
abbrev pub tx_form : List ℕ → Option Tx
tx_form bytes = option_and_then (λ rest. option_and_then (λ id. option_and_then (height_and_call id.0) (after (codes " ") id.1)) (id_at rest)) (after (codes "tx ") bytes)

-- the transaction that a line spells: a line has at most 4,096 bytes
abbrev pub tx_of : List ℕ → Option Tx
tx_of line = cond (nat_le (length line) most_line_bytes) (tx_form line) None

-- an argument as it is written
abbrev pub arg_text : Value → List ℕ
arg_text v = 32 ∷ value_text v

-- `tx ID HEIGHT`
abbrev pub head_text : Tx → List ℕ
head_text tx = codes "tx " ++ tx.id ++ (32 ∷ decimal tx.height)

-- ` PROCEDURE` and the arguments
abbrev pub call_text : Tx → List ℕ
call_text tx = 32 ∷ tx.procedure ++ flat_map arg_text tx.args

-- a transaction as it is written
abbrev pub tx_text : Tx → List ℕ
tx_text tx = head_text tx ++ call_text tx

-- what the code's types promise of a transaction
pub record IsTx (tx : Tx) : Type 0 where
  pub id : has_id_form tx.id ≡ true
  pub height : tx.height < 2 ^ 64
  pub procedure : has_name_form tx.procedure ≡ true
  pub args : AllByRecursion IsValue tx.args

-- a transaction that has a line
pub record HasLine (tx : Tx) : Type 0 where
  pub sound : IsTx tx
  pub short : length (tx_text tx) ≤ most_line_bytes
