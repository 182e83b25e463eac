-- What code does. It has the shape of what statements do by names, with variables by their numbers.
use Rattle.std.specs.Prelude.{ℕ, ℤ, Bool, cond, List, [], ◌∷◌, Option, Some, None, Result, Ok, map, replicate, slice_get, slice_set}
use Rattle.std.specs.FinMap as finite
use Rattle.std.specs.List.{find}
use Rattle.std.specs.Option.{option_and_then, option_map}
use Rattle.std.specs.Str.{bytes_eq}
use Rattle.rel_base.specs.declared.schema.TableDef.{TableDef}
use Rattle.rel_base.specs.declared.value.Value.{Value}
use Rattle.rel_base.specs.declared.value.Value.TheVariants.{Int}
use Rattle.rel_base.specs.Tables.{Tables}
use Rattle.proc_syntax.specs.declared.call.Tx.{Tx}
use Rattle.proc_syntax.specs.declared.fault.Fault.TheVariants as fault
use Rattle.proc_syntax.specs.declared.run.Binding.{Binding}
use Rattle.proc_syntax.specs.declared.run.Binding.TheVariants.{Plain, Held}
use Rattle.proc_syntax.specs.declared.run.Ran.{Ran}
use Rattle.proc_syntax.specs.declared.run.Stop.{Stop}
use Rattle.proc_syntax.specs.declared.run.Stop.TheVariants as stop
use Rattle.proc_syntax.specs.Run.{ran, no_run}
use Rattle.proc_syntax.specs.Scope.{plain_of}
use Rattle.proc_syntax.specs.Steps as steps
use Rattle.proc_syntax.specs.Steps.{Stopped, in_turn, set_to, branch, get_row, for_rows, insert_row, update_row, delete_row}
use Rattle.proc_syntax.specs.Values.{◌>>=◌, found, negation_of, not_of, apply, have_kinds}
use Rattle.proc_code.specs.declared.slots.Environment.{Environment}
use Rattle.proc_code.specs.declared.tree.Action.{Action, Action-F, fold-Action}
use Rattle.proc_code.specs.declared.tree.Action.TheOpen as action
use Rattle.proc_code.specs.declared.tree.AppCode.{AppCode}
use Rattle.proc_code.specs.declared.tree.Param.{Param}
use Rattle.proc_code.specs.declared.tree.ProcCode.{ProcCode}
use Rattle.proc_code.specs.declared.tree.Setting.{Setting}
use Rattle.proc_code.specs.declared.tree.Term.{Term, Term-F, fold-Term}
use Rattle.proc_code.specs.declared.tree.Term.TheOpen as term

-- ---- variables

-- what each variable stands for, by its number; none stands for anything at first
abbrev pub Slots : Type 0
Slots = List (Option Binding)

abbrev pub in_slot : Slots → ℕ → Option Binding
in_slot slots number = option_and_then (λ slot. slot) (slice_get slots number)

-- the table of a number, with the number
abbrev pub table_at : List TableDef → ℕ → Option (ℕ × TableDef)
table_at tables table = option_map (λ def. (table, def)) (slice_get tables table)

-- the number that a column of a name, by the name's number, has in a table
abbrev pub column_at : List (List (Option ℕ)) → ℕ → ℕ → Option ℕ
column_at columns name table = option_and_then (λ places. option_and_then (λ column. column) (slice_get places table)) (slice_get columns name)

-- the value of a held row in such a column
abbrev pub cell_of : List (List (Option ℕ)) → ℕ → Binding → Option Value
cell_of columns name (Plain v) = None
cell_of columns name (Held table row) = option_and_then (slice_get row) (column_at columns name table)

-- ---- expressions

module _ (columns : List (List (Option ℕ))) where
  abbrev pub worth_step : Term-F (Environment → Result Value Stop) → Environment → Result Value Stop
  worth_step (term.Value v) environment = Ok v
  worth_step (term.Var slot) environment = found (option_and_then plain_of (in_slot environment.slots slot))
  worth_step (term.Field slot name) environment = found (option_and_then (cell_of columns name) (in_slot environment.slots slot))
  worth_step term.Now environment = Ok (Int environment.time)
  worth_step (term.Not inner) environment = inner environment >>= not_of
  worth_step (term.Neg inner) environment = inner environment >>= negation_of
  worth_step (term.Two o left right) environment = left environment >>= λ v. apply o v (right environment)

  abbrev pub worth_of : Term → Environment → Result Value Stop
  worth_of = fold-Term (Environment → Result Value Stop) worth_step

  -- the values of expressions, from the left
  abbrev pub worths_of : List Term → Environment → Result (List Value) Stop
  worths_of [] environment = Ok []
  worths_of (e ∷ es) environment = worth_of e environment >>= λ v. worths_of es environment >>= λ vs. Ok (v ∷ vs)

  -- an end of a span, where it is given
  abbrev pub end_worth : Option Term → Environment → Result (Option Value) Stop
  end_worth None environment = Ok None
  end_worth (Some e) environment = worth_of e environment >>= λ v. Ok (Some v)

  -- a column that an update sets, with its value
  abbrev pub set_worth : Setting → Environment → Result (ℕ × Value) Stop
  set_worth setting environment = found setting.column >>= λ column. worth_of setting.value environment >>= λ v. Ok (column, v)

  abbrev pub sets_worth : List Setting → Environment → Result (List (ℕ × Value)) Stop
  sets_worth [] environment = Ok []
  sets_worth (setting ∷ settings) environment = set_worth setting environment >>= λ first. sets_worth settings environment >>= λ rest. Ok (first ∷ rest)

-- ---- statements

abbrev pub State : Type 0
State = steps.State Environment

abbrev pub Progress : Type 0
Progress = steps.Progress Environment

abbrev pub put : ℕ → Binding → State → State
put slot binding state = record state { environment = record state.environment { slots = slice_set state.environment.slots slot (Some binding) } }

abbrev pub hold : ℕ → ℕ → List Value → State → State
hold slot table row state = put slot (Held table row) state

module _ (declared : List TableDef) (columns : List (List (Option ℕ))) (tables : Tables) where
  -- one step into a statement, once its step is counted
  abbrev pub do_step : Action-F (State → Progress) → State → Progress
  do_step (action.Set slot e) state = set_to (worth_of columns e state.environment) (λ v. put slot (Plain v)) state
  do_step (action.If test body other) state = branch (worth_of columns test state.environment) (in_turn body) (in_turn other) state
  do_step (action.Get slot table key found absent) state =
      get_row tables (table_at declared table) (worths_of columns key state.environment) (hold slot) (in_turn found) (in_turn absent) state
  do_step (action.For slot table column low high body) state =
      for_rows tables (table_at declared table) (λ def. column) (end_worth columns low state.environment) (end_worth columns high state.environment) (hold slot) (in_turn body) state
  do_step (action.Insert table values) state = insert_row tables (table_at declared table) (worths_of columns values state.environment) state
  do_step (action.Update table key settings) state =
      update_row tables (table_at declared table) (worths_of columns key state.environment) (λ def. sets_worth columns settings state.environment) state
  do_step (action.Delete table key) state = delete_row tables (table_at declared table) (worths_of columns key state.environment) state
  do_step (action.Fail text) state = Stopped state (stop.Fault (fault.Failed text))

  abbrev pub do_action : Action → State → Progress
  do_action = fold-Action (State → Progress) do_step

  abbrev pub do_all : List Action → State → Progress
  do_all actions = in_turn (map do_action actions)

-- ---- runs

-- the parameters stand for the arguments
abbrev pub given : Slots → List Param → List Value → Slots
given slots [] values = slots
given slots (param ∷ params) [] = slots
given slots (param ∷ params) (v ∷ vs) = given (slice_set slots param.slot (Some (Plain v))) params vs

abbrev pub begin : ProcCode → List Value → ℤ → State
begin procedure values now = record { environment = record { slots = given (replicate procedure.slots None) procedure.params values; time = now }; own = finite.empty; made = []; steps = 0 }

-- the first procedure of a name
abbrev pub code_named : AppCode → List ℕ → Option ProcCode
code_named code name = find (λ procedure. bytes_eq procedure.name name) code.procs

-- whether there is one argument of its kind for each parameter
abbrev pub accepts : ProcCode → List Value → Bool
accepts procedure values = have_kinds (map (λ param. param.kind) procedure.params) values

abbrev pub code_called : List TableDef → AppCode → List Value → ℤ → Tables → Option ProcCode → Ran
code_called declared code values now tables None = no_run
code_called declared code values now tables (Some procedure) =
    cond (accepts procedure values) (ran declared tables (do_all declared code.columns tables procedure.body (begin procedure values now))) no_run

-- the run of a transaction's call on tables, at a time in seconds, by the code of an application whose tables are declared
abbrev pub code_run : List TableDef → AppCode → Tx → ℤ → Tables → Ran
code_run declared code tx time tables = code_called declared code tx.args time tables (code_named code tx.procedure)
