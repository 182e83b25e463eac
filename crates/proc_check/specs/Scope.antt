-- The names that are in scope in a procedure, and what they stand for.
use Rattle.std.specs.Prelude.{ℕ, List, [], ◌∷◌, cond, Result, Ok, Err, Option, Some, None}
use Rattle.std.specs.Option.{is_some}
use Rattle.std.specs.Str.{bytes_eq}
use Rattle.rel_base.specs.declared.value.Kind.{Kind}
use Rattle.proc_syntax.specs.declared.tree.Named.{Named}
use Rattle.proc_check.specs.declared.fault.Bad.{Bad}
use Rattle.proc_check.specs.declared.fault.BadKind.TheVariants.{NameTwice, UnknownName, WrongKind}
use Rattle.proc_check.specs.declared.scope.Sort.{Sort}
use Rattle.proc_check.specs.declared.scope.Sort.TheVariants as sort
use Rattle.proc_check.specs.declared.scope.Variable.{Variable}
use Rattle.proc_check.specs.Walk.{◌>>=◌, refuse, found}

-- what the name stands for, where it is in scope
abbrev pub look_up : List Variable → List ℕ → Option Sort
look_up [] name = None
look_up (variable ∷ scope) name = cond (bytes_eq variable.name name) (Some variable.sort) (look_up scope name)

-- a variable of a name
abbrev pub variable_of : Named → Sort → Variable
variable_of name sort = record { name = name.name; sort = sort }

-- a name that comes into scope, of which nothing is in scope yet
abbrev pub new_name : List Variable → Named → Result (Unit {0}) Bad
new_name scope name = refuse (is_some (look_up scope name.name)) name.line NameTwice

-- what must be a value, and its kind
abbrev pub sort_kind : ℕ → Sort → Result Kind Bad
sort_kind line (sort.Value kind) = Ok kind
sort_kind line (sort.Row table) = Err (record { line = line; kind = WrongKind })

-- what must be a row, and the number of its table
abbrev pub sort_table : ℕ → Sort → Result ℕ Bad
sort_table line (sort.Value kind) = Err (record { line = line; kind = WrongKind })
sort_table line (sort.Row table) = Ok table

-- a name in scope that stands for a value
abbrev pub value_kind : List Variable → Named → Result Kind Bad
value_kind scope name = found (look_up scope name.name) name.line UnknownName >>= sort_kind name.line

-- a name in scope that stands for a row
abbrev pub row_table : List Variable → Named → Result ℕ Bad
row_table scope name = found (look_up scope name.name) name.line UnknownName >>= sort_table name.line
