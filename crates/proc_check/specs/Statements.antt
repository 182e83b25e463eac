-- The check of statements.
use Rattle.std.specs.Prelude.{ℕ, List, [], ◌∷◌, ◌++◌, ◌==◌, length, not, Result, Ok, Option, Some, None}
use Rattle.std.specs.Option.{option_to_list}
use Rattle.rel_base.specs.declared.value.Kind.{Kind}
use Rattle.rel_base.specs.declared.value.Kind.TheVariants as kind
use Rattle.proc_syntax.specs.declared.tree.Named.{Named}
use Rattle.proc_syntax.specs.declared.tree.Change.{Change}
use Rattle.proc_syntax.specs.declared.tree.TableText.{TableText}
use Rattle.proc_syntax.specs.declared.tree.Expr.{Expr}
use Rattle.proc_syntax.specs.declared.tree.Stmt.{Stmt, Stmt-F, fold-Stmt}
use Rattle.proc_syntax.specs.declared.tree.Stmt.TheOpen as stmt
use Rattle.proc_check.specs.declared.fault.Bad.{Bad}
use Rattle.proc_check.specs.declared.fault.BadKind.TheVariants.{KeySet, NameTwice, NoIndex, WrongCount}
use Rattle.proc_check.specs.declared.scope.Sort.TheVariants as sort
use Rattle.proc_check.specs.declared.scope.Variable.{Variable}
use Rattle.proc_check.specs.Walk.{◌>>=◌, refuse, in_order, has_name}
use Rattle.proc_check.specs.Tables.{known_table, known_column, columns_of, key_of, column_kind, is_spanned}
use Rattle.proc_check.specs.Scope.{variable_of, new_name, value_kind}
use Rattle.proc_check.specs.Kinds.{need, type_of}

-- values for places, each of the kind that its place needs
abbrev pub each_fits : {A : Type 0} → (A → Option Kind) → List TableText → List Variable → List A → List Expr → Result (Unit {0}) Bad
each_fits kind tables scope (place ∷ places) (value ∷ values) =
    need (kind place) (type_of tables scope value) >>= λ _. each_fits kind tables scope places values
each_fits kind tables scope _ _ = Ok tt

-- as many values as places, each of the kind that its place needs
abbrev pub all_fit : {A : Type 0} → (A → Option Kind) → List TableText → List Variable → Named → List A → List Expr → Result (Unit {0}) Bad
all_fit kind tables scope name places values =
    refuse (not (length values == length places)) name.line WrongCount >>= λ _. each_fits kind tables scope places values

-- a table and the values of a key of it, each of which needs the kind of the key column
abbrev pub keyed : List TableText → List Variable → Named → List Expr → Result ℕ Bad
keyed tables scope name values =
    known_table tables name >>= λ table.
    all_fit (λ column. column_kind (columns_of tables table) column.name) tables scope name (key_of tables table) values >>= λ _. Ok table

-- `let name = value`
abbrev pub walk_let : List TableText → List Variable → Named → Expr → Result Kind Bad
walk_let tables scope name value = new_name scope name >>= λ _. (type_of tables scope value).kind

-- `name = value`
abbrev pub walk_assign : List TableText → List Variable → Named → Expr → Result (Unit {0}) Bad
walk_assign tables scope name value = value_kind scope name >>= λ kind. need (Some kind) (type_of tables scope value)

-- `get name from table key (values)`
abbrev pub walk_get : List TableText → List Variable → Named → Named → List Expr → Result ℕ Bad
walk_get tables scope name table values = new_name scope name >>= λ _. keyed tables scope table values

-- an end of a span, where it has one there
abbrev pub end_fits : List TableText → List Variable → Kind → Option Expr → Result (Unit {0}) Bad
end_fits tables scope kind None = Ok tt
end_fits tables scope kind (Some value) = need (Some kind) (type_of tables scope value)

-- `table span on column from low to high`
abbrev pub walk_span : List TableText → List Variable → ℕ → Named → Option Expr → Option Expr → Result (Unit {0}) Bad
walk_span tables scope table column low high =
    known_column tables table column >>= λ kind.
    refuse (not (is_spanned tables table column.name)) column.line NoIndex >>= λ _.
    end_fits tables scope kind low >>= λ _. end_fits tables scope kind high

-- `for name in table span on column from low to high`
abbrev pub walk_for : List TableText → List Variable → Named → Named → Named → Option Expr → Option Expr → Result ℕ Bad
walk_for tables scope name table column low high =
    new_name scope name >>= λ _.
    known_table tables table >>= λ number.
    walk_span tables scope number column low high >>= λ _. Ok number

-- `insert table (values)`
abbrev pub walk_insert : List TableText → List Variable → Named → List Expr → Result (Unit {0}) Bad
walk_insert tables scope table values =
    known_table tables table >>= λ number.
    all_fit (λ column. Some column.kind) tables scope table (columns_of tables number) values

-- `column = value` in an update: a column that is not of the key, is not set before, and gets a value of its kind
abbrev pub walk_change : List TableText → List Variable → ℕ → List Change → Change → Result (Unit {0}) Bad
walk_change tables scope table before change =
    known_column tables table change.column >>= λ kind.
    refuse (has_name (λ other. other) (key_of tables table) change.column.name) change.column.line KeySet >>= λ _.
    refuse (has_name (λ other. other.column) before change.column.name) change.column.line NameTwice >>= λ _.
    need (Some kind) (type_of tables scope change.value)

-- `update table key (values) set changes`
abbrev pub walk_update : List TableText → List Variable → Named → List Expr → List Change → Result (Unit {0}) Bad
walk_update tables scope table values changes =
    keyed tables scope table values >>= λ number. in_order (walk_change tables scope number) [] changes

-- a statement under the names in scope, and the name that it brings into scope for the statements after it
abbrev pub Walk : Type 0
Walk = List Variable → Result (Option Variable) Bad

-- statements in their order; what comes into scope stays there to the end of their block
abbrev pub block : List Walk → List Variable → Result (Unit {0}) Bad
block [] scope = Ok tt
block (walk ∷ walks) scope = walk scope >>= λ brought. block walks (scope ++ option_to_list brought)

-- a block that may be left out
abbrev pub maybe_block : Option (List Walk) → List Variable → Result (Unit {0}) Bad
maybe_block None scope = Ok tt
maybe_block (Some walks) scope = block walks scope

-- what a statement brings into scope that brings nothing, once it is checked
abbrev pub brings_none : {A : Type 0} → Result A Bad → Result (Option Variable) Bad
brings_none checked = checked >>= λ _. Ok None

-- what a `let` brings into scope, once it is checked
abbrev pub brings_value : Named → Result Kind Bad → Result (Option Variable) Bad
brings_value name checked = checked >>= λ kind. Ok (Some (variable_of name (sort.Value kind)))

-- a `for` with its block
abbrev pub walk_rows : List TableText → List Variable → Named → Named → Named → Option Expr → Option Expr → List Walk → Result (Option Variable) Bad
walk_rows tables scope name table column low high body =
    walk_for tables scope name table column low high >>= λ number.
    block body (scope ++ variable_of name (sort.Row number) ∷ []) >>= λ _. Ok None

-- a statement, from the walks of those in its blocks
abbrev pub stmt_step : List TableText → Stmt-F Walk → Walk
stmt_step tables (stmt.Let name value) scope =
    walk_let tables scope name value >>= λ kind. Ok (Some (variable_of name (sort.Value kind)))
stmt_step tables (stmt.Assign name value) scope =
    walk_assign tables scope name value >>= λ _. Ok None
stmt_step tables (stmt.If test first other) scope =
    need (Some kind.Bool) (type_of tables scope test) >>= λ _. block first scope >>= λ _. maybe_block other scope >>= λ _. Ok None
stmt_step tables (stmt.Get name table key found absent) scope =
    walk_get tables scope name table key >>= λ number.
    block found (scope ++ variable_of name (sort.Row number) ∷ []) >>= λ _. block absent scope >>= λ _. Ok None
stmt_step tables (stmt.For name table column low high body) scope =
    walk_for tables scope name table column low high >>= λ number.
    block body (scope ++ variable_of name (sort.Row number) ∷ []) >>= λ _. Ok None
stmt_step tables (stmt.Insert table values) scope =
    walk_insert tables scope table values >>= λ _. Ok None
stmt_step tables (stmt.Update table key changes) scope =
    walk_update tables scope table key changes >>= λ _. Ok None
stmt_step tables (stmt.Delete table key) scope =
    keyed tables scope table key >>= λ _. Ok None
stmt_step tables (stmt.Fail text) scope = Ok None

abbrev pub walk_stmt : List TableText → Stmt → Walk
walk_stmt tables = fold-Stmt Walk (stmt_step tables)
