-- The names of a run, and the values of expressions.
use Rattle.std.specs.Prelude.{ℕ, ℤ, cond, List, [], ◌∷◌, Option, Some, None, Result, Ok, slice_get}
use Rattle.std.specs.List.{position_from, find}
use Rattle.std.specs.Option.{option_and_then, option_map}
use Rattle.std.specs.Str.{bytes_eq}
use Rattle.rel_base.specs.declared.schema.TableDef.{TableDef}
use Rattle.rel_base.specs.declared.value.Value.{Value}
use Rattle.rel_base.specs.declared.value.Value.TheVariants.{Int}
use Rattle.proc_syntax.specs.declared.run.Binding.{Binding}
use Rattle.proc_syntax.specs.declared.run.Binding.TheVariants.{Plain, Held}
use Rattle.proc_syntax.specs.declared.run.Stop.{Stop}
use Rattle.proc_syntax.specs.declared.run.Variable.{Variable}
use Rattle.proc_syntax.specs.declared.tree.Change.{Change}
use Rattle.proc_syntax.specs.declared.tree.Expr.{Expr, Expr-F, fold-Expr}
use Rattle.proc_syntax.specs.declared.tree.Expr.TheOpen as expr
use Rattle.proc_syntax.specs.Values.{◌>>=◌, found, negation_of, not_of, apply}

-- what the expressions of a run are evaluated in: what its names stand for, and its time in seconds
pub record Environment : Type 0 where
  pub variables : List Variable
  pub now : ℤ

-- a name stands for something from now on; names that go out of scope stay, since a checked procedure never looks at them there
abbrev pub bind : List Variable → List ℕ → Binding → List Variable
bind [] name binding = record { name = name; binding = binding } ∷ []
bind (variable ∷ rest) name binding = cond (bytes_eq variable.name name) (record { name = name; binding = binding } ∷ rest) (variable ∷ bind rest name binding)

abbrev pub binding_of : List Variable → List ℕ → Option Binding
binding_of variables name = option_map (λ variable. variable.binding) (find (λ variable. bytes_eq variable.name name) variables)

-- the number of a table's first column of a name
abbrev pub column_in : TableDef → List ℕ → Option ℕ
column_in def name = position_from (λ column. bytes_eq column.name name) 0 def.columns

-- the number and the declaration of the first table of a name
abbrev pub table_named : List TableDef → List ℕ → Option (ℕ × TableDef)
table_named tables name = option_and_then (λ table. option_map (λ def. (table, def)) (slice_get tables table)) (position_from (λ def. bytes_eq def.name name) 0 tables)

-- a plain variable's value
abbrev pub plain_of : Binding → Option Value
plain_of (Plain v) = Some v
plain_of (Held table row) = None

-- the value of a held row in a column of its table
abbrev pub field_of : List TableDef → List ℕ → Binding → Option Value
field_of tables column (Plain v) = None
field_of tables column (Held table row) = option_and_then (λ def. option_and_then (λ number. slice_get row number) (column_in def column)) (slice_get tables table)

module _ (tables : List TableDef) where
  -- one step into an expression: what it is worth, by what its parts are worth, the left one first
  abbrev pub value_step : Expr-F (Environment → Result Value Stop) → Environment → Result Value Stop
  value_step (expr.Value v line) environment = Ok v
  value_step (expr.Var named) environment = found (option_and_then plain_of (binding_of environment.variables named.name))
  value_step (expr.Field row column) environment = found (option_and_then (field_of tables column.name) (binding_of environment.variables row.name))
  value_step (expr.Now line) environment = Ok (Int environment.now)
  value_step (expr.Not inner line) environment = inner environment >>= not_of
  value_step (expr.Neg inner line) environment = inner environment >>= negation_of
  value_step (expr.Paren inner line) environment = inner environment
  value_step (expr.Two o left right) environment = left environment >>= λ v. apply o v (right environment)

  -- the value of an expression
  abbrev pub value_of : Expr → Environment → Result Value Stop
  value_of = fold-Expr (Environment → Result Value Stop) value_step

  -- the values of expressions, from the left
  abbrev pub values_of : List Expr → Environment → Result (List Value) Stop
  values_of [] environment = Ok []
  values_of (e ∷ es) environment = value_of e environment >>= λ v. values_of es environment >>= λ vs. Ok (v ∷ vs)

  -- an end of a span, where it is given
  abbrev pub end_of : Option Expr → Environment → Result (Option Value) Stop
  end_of None environment = Ok None
  end_of (Some e) environment = value_of e environment >>= λ v. Ok (Some v)

  -- a column that an update sets, with its value
  abbrev pub change_of : TableDef → Change → Environment → Result (ℕ × Value) Stop
  change_of def change environment = found (column_in def change.column.name) >>= λ column. value_of change.value environment >>= λ v. Ok (column, v)

  -- the columns that an update sets, with their values, from the left
  abbrev pub changes_of : TableDef → List Change → Environment → Result (List (ℕ × Value)) Stop
  changes_of def [] environment = Ok []
  changes_of def (change ∷ changes) environment = change_of def change environment >>= λ first. changes_of def changes environment >>= λ rest. Ok (first ∷ rest)
