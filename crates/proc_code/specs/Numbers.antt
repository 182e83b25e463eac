-- Names and their numbers.
use Rattle.std.specs.Prelude.{◌≡◌, ℕ, Bool, cond, List, [], ◌∷◌, ◌++◌, Option, Some, None, map}
use Rattle.std.specs.BTreeMap.{BTreeMap, get}
use Rattle.std.specs.Cmp.Lexicographic.{slice_cmp}
use Rattle.std.specs.List.{position_or_len, list_any, flat_map}
use Rattle.std.specs.Option.{option_and_then}
use Rattle.std.specs.Ordering.{nat_cmp}
use Rattle.std.specs.Str.{bytes_eq}
use Rattle.rel_base.specs.declared.schema.TableDef.{TableDef}
use Rattle.proc_syntax.specs.declared.tree.ProcDef.{ProcDef}
use Rattle.proc_syntax.specs.declared.tree.Stmt.{Stmt, Stmt-F, fold-Stmt}
use Rattle.proc_syntax.specs.declared.tree.Stmt.TheOpen as stmt
use Rattle.proc_syntax.specs.Scope.{column_in, table_named}

-- ---- names in the order in which they are met, each once

abbrev pub Names : Type 0
Names = List (List ℕ)

abbrev pub has_name : Names → List ℕ → Bool
has_name names name = list_any (λ other. bytes_eq other name) names

-- the number of a name; one that is not there has the number of all
abbrev pub number_of_name : Names → List ℕ → ℕ
number_of_name names name = position_or_len (λ other. bytes_eq other name) names

-- the number of a name, where it is there
abbrev pub number_if : Names → List ℕ → Option ℕ
number_if names name = cond (has_name names name) (Some (number_of_name names name)) None

-- a map has each name under its number
abbrev pub AreNumbersOf : Names → BTreeMap (List ℕ) ℕ → Type 0
AreNumbersOf names numbers = (name : List ℕ) → get (slice_cmp nat_cmp) numbers name ≡ number_if names name

abbrev pub with_name : Names → List ℕ → Names
with_name names name = cond (has_name names name) names (names ++ name ∷ [])

abbrev pub with_names : Names → Names → Names
with_names names [] = names
with_names names (name ∷ rest) = with_names (with_name names name) rest

-- ---- the variables of a procedure

abbrev pub joined : List Names → Names
joined names = flat_map (λ these. these) names

abbrev pub joined_if : Option (List Names) → Names
joined_if None = []
joined_if (Some names) = joined names

-- the names that a statement gives something to stand for, in the order of the text
abbrev pub bound_step : Stmt-F Names → Names
bound_step (stmt.Let name e) = name.name ∷ []
bound_step (stmt.Assign name e) = name.name ∷ []
bound_step (stmt.If test body other) = joined body ++ joined_if other
bound_step (stmt.Get name table key found absent) = name.name ∷ joined found ++ joined absent
bound_step (stmt.For name table column low high body) = name.name ∷ joined body
bound_step (stmt.Insert table values) = []
bound_step (stmt.Update table key changes) = []
bound_step (stmt.Delete table key) = []
bound_step (stmt.Fail text) = []

abbrev pub bound_names : Stmt → Names
bound_names = fold-Stmt Names bound_step

-- the names of a procedure's variables: its parameters, and what its statements bind
abbrev pub slots_of : ProcDef → Names
slots_of procedure = with_names [] (map (λ param. param.name.name) procedure.params ++ joined (map bound_names procedure.body))

-- ---- tables and columns

abbrev pub table_number : List TableDef → List ℕ → ℕ
table_number tables name = position_or_len (λ def. bytes_eq def.name name) tables

-- the number of a column in the table of a name
abbrev pub column_of_table : List TableDef → List ℕ → List ℕ → Option ℕ
column_of_table tables table column = option_and_then (λ named. column_in named.1 column) (table_named tables table)

-- the names of the columns of all tables
abbrev pub column_names : List TableDef → Names
column_names tables = with_names [] (flat_map (λ def. map (λ column. column.name) def.columns) tables)

-- for each such name the number of the column in each table
abbrev pub column_places : List TableDef → List (List (Option ℕ))
column_places tables = map (λ name. map (λ def. column_in def name) tables) (column_names tables)
