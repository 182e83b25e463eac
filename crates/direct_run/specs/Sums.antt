-- Assignments of sums, differences and products in a loop over rows, with their operands resolved once.
use Rattle.std.specs.Prelude.{◌≡◌, ◌<◌, ℕ, List, length, [], ◌∷◌, Option, Some, slice_get}
use Rattle.std.specs.Option.{option_and_then}
use Rattle.rel_base.specs.declared.schema.TableDef.{TableDef}
use Rattle.rel_base.specs.declared.value.Value.{Value}
use Rattle.rel_base.specs.declared.value.Value.TheVariants.{Int}
use Rattle.rel_base.specs.Tables.{Tables}
use Rattle.proc_syntax.specs.declared.run.Binding.TheVariants.{Held, Plain}
use Rattle.proc_syntax.specs.Scope.{plain_of}
use Rattle.proc_syntax.specs.Steps.{set_to}
use Rattle.proc_syntax.specs.Values.{found}
use Rattle.proc_code.specs.declared.slots.Environment.{Environment}
use Rattle.proc_code.specs.declared.tree.Action.{Action}
use Rattle.proc_code.specs.declared.tree.Term.{Term}
use Rattle.proc_code.specs.Coded.{Slots, State, do_action, in_slot, put, worth_of}
use Rattle.proc_code.specs.Weighed.{applied}
use Rattle.direct_run.specs.declared.sums.Operand.{Operand}
use Rattle.direct_run.specs.declared.sums.Operand.TheVariants as operand
use Rattle.direct_run.specs.declared.sums.Sum.{Sum}

-- the value that an operand has, where there is one
abbrev pub value_of : Slots → List Value → Operand → Option Value
value_of slots row (operand.Number n) = Some (Int n)
value_of slots row (operand.Variable slot) = option_and_then plain_of (in_slot slots slot)
value_of slots row (operand.Column column) = slice_get row column

-- an expression is worth what an operand has, wherever a variable holds a row of a table
abbrev pub IsOperand : List (List (Option ℕ)) → ℕ → ℕ → Term → Operand → Type 0
IsOperand columns slot table term operand =
    (environment : Environment) (row : List Value) → in_slot environment.slots slot ≡ Some (Held table row) → worth_of columns term environment ≡ found (value_of environment.slots row operand)

-- a variable, where there is one of the number, holds a row of a table
abbrev pub IsHeld : Slots → ℕ → ℕ → List Value → Type 0
IsHeld slots slot table row = slot < length slots → in_slot slots slot ≡ Some (Held table row)

-- a statement does what an assignment does, wherever a variable holds a row of a table; the assignment is one to another variable
pub record IsSum (columns : List (List (Option ℕ))) (slot table : ℕ) (action : Action) (sum : Sum) : Type 0 where
  pub other : sum.slot ≡ slot → ⊥
  pub does : (declared : List TableDef) (tables : Tables) (state : State) (row : List Value) → in_slot state.environment.slots slot ≡ Some (Held table row)
      → do_action declared columns tables action state
      ≡ set_to (applied sum.op (found (value_of state.environment.slots row sum.left)) (found (value_of state.environment.slots row sum.right))) (λ v. put sum.slot (Plain v)) state

-- a block begins with statements that do what assignments do, one after the other
abbrev pub BeginsWith : List (List (Option ℕ)) → ℕ → ℕ → List Action → List Sum → Type 0
BeginsWith columns slot table block [] = Unit {0}
BeginsWith columns slot table [] (sum ∷ sums) = ⊥
BeginsWith columns slot table (action ∷ block) (sum ∷ sums) = IsSum columns slot table action sum × BeginsWith columns slot table block sums
