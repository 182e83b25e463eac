-- The tables that an application declares.
use Rattle.std.specs.Prelude.{ℕ, ◌+◌, ◌<◌, ◌≤◌, List, [], ◌∷◌, length, map, Bool, true, false, cond, Option, Some, None, All, IfSome}
use Rattle.std.proofs.Common.{arith, subst, sym}
use Rattle.std.specs.List.{position_from, cons_option, filter_map, AllByRecursion}
use Rattle.std.specs.Str.{bytes_eq}
use Rattle.std.proofs.lemmas.List.{length-map}
use Rattle.std.proofs.lemmas.List.Elements.{All-from_recursion}
use Rattle.rel_base.specs.declared.schema.Column.{Column}
use Rattle.rel_base.specs.declared.schema.TableDef.{TableDef}
use Rattle.proc_syntax.specs.declared.tree.App.{App}
use Rattle.proc_syntax.specs.declared.tree.ColumnText.{ColumnText}
use Rattle.proc_syntax.specs.declared.tree.Named.{Named}
use Rattle.proc_syntax.specs.declared.tree.TableText.{TableText}

-- the number of the first column of a name
abbrev pub column_number : List ColumnText → List ℕ → Option ℕ
column_number columns name = position_from (λ column. bytes_eq column.name.name name) 0 columns

-- the numbers of the columns that are named, each of the first column of its name; a name that is no column has none
abbrev pub known_columns : List ColumnText → List Named → List ℕ
known_columns columns names = filter_map (λ named. position_from (λ column. bytes_eq column.name.name named.name) 0 columns) names

abbrev pub column_of : ColumnText → Column
column_of column = record { name = column.name.name; kind = column.kind }

-- ---- the numbers are below the number of columns

weaker : (found : Option ℕ) (low high : ℕ) → low ≤ high → IfSome found (λ n. n < low) → IfSome found (λ n. n < high)
weaker None low high le below = tt
weaker (Some n) low high le below = omega (arith, le, below)

position_below : {X : Type 0} (test : X → Bool) (first : ℕ) (xs : List X) → IfSome (position_from test first xs) (λ n. n < first + length xs)
position_below test first [] = tt
position_below test first (x ∷ xs) =
    elim (test x) as (λ b. IfSome (cond b (Some first) (position_from test (first + 1) xs)) (λ n. n < first + length (x ∷ xs))) [
      | true ↦ omega arith
      | false ↦ weaker (position_from test (first + 1) xs) (first + 1 + length xs) (first + length (x ∷ xs)) (omega arith) (position_below test (first + 1) xs)
    ]

with_below : (found : Option ℕ) (numbers : List ℕ) (bound : ℕ) → IfSome found (λ n. n < bound) → AllByRecursion (λ n. n < bound) numbers → AllByRecursion (λ n. n < bound) (cons_option found numbers)
with_below None numbers bound below all = all
with_below (Some n) numbers bound below all = (below, all)

known_below : (columns : List ColumnText) (names : List Named) → AllByRecursion (λ n. n < length columns) (known_columns columns names)
known_below columns [] = tt
known_below columns (named ∷ rest) = with_below (column_number columns named.name) (known_columns columns rest) (length columns) (weaker (column_number columns named.name) (0 + length columns) (length columns) (omega arith) (position_below _ 0 columns)) (known_below columns rest)

pub known_in_range : (columns : List ColumnText) (names : List Named) → All (λ n. n < length (map column_of columns)) (known_columns columns names)
known_in_range columns names =
    All-from_recursion (λ n. n < length (map column_of columns)) (known_columns columns names)
    (subst (λ bound. AllByRecursion (λ n. n < bound) (known_columns columns names)) (sym (length-map columns column_of)) (known_below columns names))

-- ---- the declarations

-- the declaration of a table's text: its columns, and its key and its indexed columns by their numbers
abbrev pub declare : TableText → TableDef
declare text = record {
  name = text.name.name;
  columns = map column_of text.columns;
  key = known_columns text.columns text.key;
  index = known_columns text.columns text.index;
  key_in_range = known_in_range text.columns text.key;
  index_in_range = known_in_range text.columns text.index;
}

-- the declarations of an application, whose tables are numbered from 0 in their order
abbrev pub tables_of : App → List TableDef
tables_of app = map declare app.tables
