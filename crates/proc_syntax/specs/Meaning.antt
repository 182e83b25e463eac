-- What the statements of a procedure do, by recursion on their tree. A run has variables and a time, own writes, the reads that it made
-- and the count of its steps. It ends where its block ends, or where it stops on its way.
use Rattle.std.specs.Prelude.{ℕ, List, [], map, unwrap_or}
use Rattle.rel_base.specs.declared.schema.TableDef.{TableDef}
use Rattle.rel_base.specs.declared.value.Value.{Value}
use Rattle.rel_base.specs.Tables.{Tables}
use Rattle.proc_syntax.specs.declared.fault.Fault.TheVariants as fault
use Rattle.proc_syntax.specs.declared.run.Binding.{Binding}
use Rattle.proc_syntax.specs.declared.run.Binding.TheVariants.{Plain, Held}
use Rattle.proc_syntax.specs.declared.run.Stop.TheVariants as stop
use Rattle.proc_syntax.specs.declared.tree.Stmt.{Stmt, Stmt-F, fold-Stmt}
use Rattle.proc_syntax.specs.declared.tree.Stmt.TheOpen as stmt
use Rattle.proc_syntax.specs.Scope.{Environment, bind, table_named, column_in, value_of, values_of, end_of, changes_of}
use Rattle.proc_syntax.specs.Steps as steps
use Rattle.proc_syntax.specs.Steps.{held_or, each_held, set_to, branch, get_row, for_rows, insert_row, update_row, delete_row}
pub use Rattle.proc_syntax.specs.Steps.{Going, Stopped, then_do, step_then, with_value, with_some, wrote, asked, in_turn, in_turn_if, with_rows}
pub use Rattle.proc_syntax.specs.Steps.{point_of, end_has, span_of, row_fits, key_for, row_under, set_columns, insert_at, update_at, delete_at}

-- ---- a run by names

abbrev pub State : Type 0
State = steps.State Environment

abbrev pub Progress : Type 0
Progress = steps.Progress Environment

abbrev pub bound : State → List ℕ → Binding → State
bound state name binding = record state { environment = record state.environment { variables = bind state.environment.variables name binding } }

-- a name stands for a row of a table from now on
abbrev pub hold : List ℕ → ℕ → List Value → State → State
hold name table row state = bound state name (Held table row)

-- one block where the key has a row, for which the name then stands, and another where it has none
abbrev pub get_at : ℕ → List ℕ → (State → Progress) → (State → Progress) → List (List Value) → State → Progress
get_at table name found absent = held_or (hold name table) found absent

-- each row has its turn, with a step of its own
abbrev pub visit : ℕ → List ℕ → (State → Progress) → List (List Value) → State → Progress
visit table name body = each_held (hold name table) body

-- ---- statements

module _ (declared : List TableDef) (tables : Tables) where
  -- one step into a statement, once its step is counted: what it does, by what the statements of its blocks do
  abbrev pub act_step : Stmt-F (State → Progress) → State → Progress
  act_step (stmt.Let name e) state = set_to (value_of declared e state.environment) (λ v state. bound state name.name (Plain v)) state
  act_step (stmt.Assign name e) state = set_to (value_of declared e state.environment) (λ v state. bound state name.name (Plain v)) state
  act_step (stmt.If test body other) state = branch (value_of declared test state.environment) (in_turn body) (in_turn (unwrap_or other [])) state
  act_step (stmt.Get name table key found absent) state =
      get_row tables (table_named declared table.name) (values_of declared key state.environment) (hold name.name) (in_turn found) (in_turn absent) state
  act_step (stmt.For name table column low high body) state =
      for_rows tables (table_named declared table.name) (λ def. column_in def column.name) (end_of declared low state.environment) (end_of declared high state.environment) (hold name.name) (in_turn body) state
  act_step (stmt.Insert table values) state = insert_row tables (table_named declared table.name) (values_of declared values state.environment) state
  act_step (stmt.Update table key changes) state =
      update_row tables (table_named declared table.name) (values_of declared key state.environment) (λ def. changes_of declared def changes state.environment) state
  act_step (stmt.Delete table key) state = delete_row tables (table_named declared table.name) (values_of declared key state.environment) state
  act_step (stmt.Fail text) state = Stopped state (stop.Fault (fault.Failed text))

  -- a statement, once its step is counted
  abbrev pub act : Stmt → State → Progress
  act = fold-Stmt (State → Progress) act_step

  -- a block
  abbrev pub block : List Stmt → State → Progress
  block stmts = in_turn (map act stmts)
