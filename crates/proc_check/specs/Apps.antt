-- The check of an application.
use Rattle.std.specs.Prelude.{List, [], map, Result, Ok, Err, Option, Some, None}
use Rattle.proc_syntax.specs.declared.tree.App.{App}
use Rattle.proc_syntax.specs.declared.tree.ColumnText.{ColumnText}
use Rattle.proc_syntax.specs.declared.tree.ProcDef.{ProcDef}
use Rattle.proc_syntax.specs.declared.tree.TableText.{TableText}
use Rattle.proc_check.specs.declared.fault.Bad.{Bad}
use Rattle.proc_check.specs.declared.scope.Sort.TheVariants as sort
use Rattle.proc_check.specs.declared.scope.Variable.{Variable}
use Rattle.proc_check.specs.Walk.{◌>>=◌, in_order, fresh}
use Rattle.proc_check.specs.Tables.{walk_table}
use Rattle.proc_check.specs.Scope.{variable_of}
use Rattle.proc_check.specs.Statements.{block, walk_stmt}

-- a parameter stands for a value of its kind
abbrev pub parameter : ColumnText → Variable
parameter column = variable_of column.name (sort.Value column.kind)

-- a procedure, after those before it: its name, its parameters, and its block with the parameters in scope
abbrev pub walk_proc : List TableText → List ProcDef → ProcDef → Result (Unit {0}) Bad
walk_proc tables before procedure =
    fresh (λ other. other.name) 256 before procedure >>= λ _.
    in_order (fresh (λ column. column.name) 16) [] procedure.params >>= λ _.
    block (map (walk_stmt tables) procedure.body) (map parameter procedure.params)

-- the tables and then the procedures, in the order of the text
abbrev pub walk_app : App → Result (Unit {0}) Bad
walk_app app = in_order walk_table [] app.tables >>= λ _. in_order (walk_proc app.tables) [] app.procs

abbrev pub fault_of : Result (Unit {0}) Bad → Option Bad
fault_of (Ok walked) = None
fault_of (Err bad) = Some bad

-- the first fault of an application, where it has one
abbrev pub first_fault : App → Option Bad
first_fault app = fault_of (walk_app app)
