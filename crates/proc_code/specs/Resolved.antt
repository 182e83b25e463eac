-- Procedures with their names resolved.
use Rattle.std.specs.Prelude.{ℕ, List, [], Option, Some, None, length, map}
use Rattle.std.specs.Option.{option_map}
use Rattle.rel_base.specs.declared.schema.TableDef.{TableDef}
use Rattle.proc_syntax.specs.declared.tree.App.{App}
use Rattle.proc_syntax.specs.declared.tree.Change.{Change}
use Rattle.proc_syntax.specs.declared.tree.ColumnText.{ColumnText}
use Rattle.proc_syntax.specs.declared.tree.Expr.{Expr, Expr-F, fold-Expr}
use Rattle.proc_syntax.specs.declared.tree.Expr.TheOpen as expr
use Rattle.proc_syntax.specs.declared.tree.ProcDef.{ProcDef}
use Rattle.proc_syntax.specs.declared.tree.Stmt.{Stmt, Stmt-F, fold-Stmt}
use Rattle.proc_syntax.specs.declared.tree.Stmt.TheOpen as stmt
use Rattle.proc_syntax.specs.Declaring.{tables_of}
use Rattle.proc_code.specs.declared.tree.Action.{Action}
use Rattle.proc_code.specs.declared.tree.Action.TheVariants as action
use Rattle.proc_code.specs.declared.tree.AppCode.{AppCode}
use Rattle.proc_code.specs.declared.tree.Param.{Param}
use Rattle.proc_code.specs.declared.tree.ProcCode.{ProcCode}
use Rattle.proc_code.specs.declared.tree.Setting.{Setting}
use Rattle.proc_code.specs.declared.tree.Term.{Term}
use Rattle.proc_code.specs.declared.tree.Term.TheVariants as term
use Rattle.proc_code.specs.Numbers.{Names, number_of_name, slots_of, table_number, column_of_table, column_names, column_places}

-- ---- expressions and statements, where the columns and the variables of names have their numbers

module _ (columns names : Names) where
  abbrev pub term_step : Expr-F Term → Term
  term_step (expr.Value v line) = term.Value v
  term_step (expr.Var named) = term.Var (number_of_name names named.name)
  term_step (expr.Field row column) = term.Field (number_of_name names row.name) (number_of_name columns column.name)
  term_step (expr.Now line) = term.Now
  term_step (expr.Not inner line) = term.Not inner
  term_step (expr.Neg inner line) = term.Neg inner
  term_step (expr.Paren inner line) = inner
  term_step (expr.Two op left right) = term.Two op left right

  abbrev pub term_of : Expr → Term
  term_of = fold-Expr Term term_step

module _ (tables : List TableDef) (columns names : Names) where
  abbrev pub setting_of : List ℕ → Change → Setting
  setting_of table change = record { column = column_of_table tables table change.column.name; value = term_of columns names change.value }

  abbrev pub or_none : Option (List Action) → List Action
  or_none None = []
  or_none (Some actions) = actions

  abbrev pub action_step : Stmt-F Action → Action
  action_step (stmt.Let name e) = action.Set (number_of_name names name.name) (term_of columns names e)
  action_step (stmt.Assign name e) = action.Set (number_of_name names name.name) (term_of columns names e)
  action_step (stmt.If test body other) = action.If (term_of columns names test) body (or_none other)
  action_step (stmt.Get name table key found absent) = action.Get (number_of_name names name.name) (table_number tables table.name) (map (term_of columns names) key) found absent
  action_step (stmt.For name table column low high body) =
      action.For (number_of_name names name.name) (table_number tables table.name) (column_of_table tables table.name column.name) (option_map (term_of columns names) low) (option_map (term_of columns names) high) body
  action_step (stmt.Insert table values) = action.Insert (table_number tables table.name) (map (term_of columns names) values)
  action_step (stmt.Update table key changes) = action.Update (table_number tables table.name) (map (term_of columns names) key) (map (setting_of table.name) changes)
  action_step (stmt.Delete table key) = action.Delete (table_number tables table.name) (map (term_of columns names) key)
  action_step (stmt.Fail text) = action.Fail text

  abbrev pub action_of : Stmt → Action
  action_of = fold-Stmt Action action_step

-- ---- an application

abbrev pub param_of : Names → ColumnText → Param
param_of names param = record { slot = number_of_name names param.name.name; kind = param.kind }

abbrev pub proc_of : List TableDef → ProcDef → ProcCode
proc_of tables procedure = record {
  name = procedure.name.name;
  slots = length (slots_of procedure);
  params = map (param_of (slots_of procedure)) procedure.params;
  body = map (action_of tables (column_names tables) (slots_of procedure)) procedure.body;
}

abbrev pub code_of : App → AppCode
code_of app = record { procs = map (proc_of (tables_of app)) app.procs; columns = column_places (tables_of app) }
