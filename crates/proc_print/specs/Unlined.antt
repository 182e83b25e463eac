-- Trees without their line numbers: each line is 0.
use Rattle.std.specs.Prelude.{map}
use Rattle.std.specs.Option.{option_map}
use Rattle.proc_syntax.specs.declared.tree.Named.{Named}
use Rattle.proc_syntax.specs.declared.tree.ColumnText.{ColumnText}
use Rattle.proc_syntax.specs.declared.tree.TableText.{TableText}
use Rattle.proc_syntax.specs.declared.tree.Change.{Change}
use Rattle.proc_syntax.specs.declared.tree.Expr.{Expr, Expr-F, fold-Expr}
use Rattle.proc_syntax.specs.declared.tree.Expr.TheOpen as open_expr
use Rattle.proc_syntax.specs.declared.tree.Expr.TheVariants as expr
use Rattle.proc_syntax.specs.declared.tree.Stmt.{Stmt, Stmt-F, fold-Stmt}
use Rattle.proc_syntax.specs.declared.tree.Stmt.TheOpen as open_stmt
use Rattle.proc_syntax.specs.declared.tree.Stmt.TheVariants as stmt
use Rattle.proc_syntax.specs.declared.tree.ProcDef.{ProcDef}
use Rattle.proc_syntax.specs.declared.tree.App.{App}

-- a name without its line
abbrev pub unlined_name : Named → Named
unlined_name named = record { name = named.name; line = 0 }

-- a column or a parameter
abbrev pub unlined_column : ColumnText → ColumnText
unlined_column column = record { name = unlined_name column.name; kind = column.kind }

-- an expression, from those inside it without their lines
abbrev pub unlined_expr_step : Expr-F Expr → Expr
unlined_expr_step (open_expr.Value v line) = expr.Value v 0
unlined_expr_step (open_expr.Var name) = expr.Var (unlined_name name)
unlined_expr_step (open_expr.Field row column) = expr.Field (unlined_name row) (unlined_name column)
unlined_expr_step (open_expr.Now line) = expr.Now 0
unlined_expr_step (open_expr.Not inner line) = expr.Not inner 0
unlined_expr_step (open_expr.Neg inner line) = expr.Neg inner 0
unlined_expr_step (open_expr.Paren inner line) = expr.Paren inner 0
unlined_expr_step (open_expr.Two o left right) = expr.Two o left right

-- an expression
abbrev pub unlined_expr : Expr → Expr
unlined_expr = fold-Expr Expr unlined_expr_step

-- a column that is set, and its value
abbrev pub unlined_change : Change → Change
unlined_change change = record { column = unlined_name change.column; value = unlined_expr change.value }

-- a statement, from those in its blocks without their lines
abbrev pub unlined_stmt_step : Stmt-F Stmt → Stmt
unlined_stmt_step (open_stmt.Let name e) = stmt.Let (unlined_name name) (unlined_expr e)
unlined_stmt_step (open_stmt.Assign name e) = stmt.Assign (unlined_name name) (unlined_expr e)
unlined_stmt_step (open_stmt.If test body other) = stmt.If (unlined_expr test) body other
unlined_stmt_step (open_stmt.Get name table key found absent) = stmt.Get (unlined_name name) (unlined_name table) (map unlined_expr key) found absent
unlined_stmt_step (open_stmt.For name table column low high body) =
    stmt.For (unlined_name name) (unlined_name table) (unlined_name column) (option_map unlined_expr low) (option_map unlined_expr high) body
unlined_stmt_step (open_stmt.Insert table values) = stmt.Insert (unlined_name table) (map unlined_expr values)
unlined_stmt_step (open_stmt.Update table key changes) = stmt.Update (unlined_name table) (map unlined_expr key) (map unlined_change changes)
unlined_stmt_step (open_stmt.Delete table key) = stmt.Delete (unlined_name table) (map unlined_expr key)
unlined_stmt_step (open_stmt.Fail text) = stmt.Fail text

-- a statement
abbrev pub unlined_stmt : Stmt → Stmt
unlined_stmt = fold-Stmt Stmt unlined_stmt_step

-- a table
abbrev pub unlined_table : TableText → TableText
unlined_table table = record {
  name = unlined_name table.name;
  columns = map unlined_column table.columns;
  key = map unlined_name table.key;
  index = map unlined_name table.index;
}

-- a procedure
abbrev pub unlined_procedure : ProcDef → ProcDef
unlined_procedure p = record { name = unlined_name p.name; params = map unlined_column p.params; body = map unlined_stmt p.body }

-- an application in all but line numbers
abbrev pub unlined : App → App
unlined app = record { exact = app.exact; tables = map unlined_table app.tables; procs = map unlined_procedure app.procs }
