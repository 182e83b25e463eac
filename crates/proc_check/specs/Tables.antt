-- The declarations of tables, and what they say.
use Rattle.std.specs.Prelude.{ℕ, List, [], ◌∷◌, length, take, Bool, false, ◌||◌, not, cond, nat_le, Result, Option, Some, None, slice_get}
use Rattle.std.specs.List.{position_from}
use Rattle.std.specs.Str.{bytes_eq}
use Rattle.rel_base.specs.declared.value.Kind.{Kind}
use Rattle.proc_syntax.specs.declared.tree.Named.{Named}
use Rattle.proc_syntax.specs.declared.tree.ColumnText.{ColumnText}
use Rattle.proc_syntax.specs.declared.tree.TableText.{TableText}
use Rattle.proc_check.specs.declared.fault.Bad.{Bad}
use Rattle.proc_check.specs.declared.fault.BadKind.TheVariants.{Limit, NameTwice, UnknownName}
use Rattle.proc_check.specs.Walk.{◌>>=◌, refuse, in_order, has_name, fresh, found}

-- a name in `key` or `index`: one of at most eight, of a column, and not there before
abbrev pub listed : List ColumnText → List Named → Named → Result (Unit {0}) Bad
listed columns before name =
    refuse (nat_le 8 (length before)) name.line Limit >>= λ _.
    refuse (not (has_name (λ column. column.name) columns name.name)) name.line UnknownName >>= λ _.
    refuse (has_name (λ other. other) before name.name) name.line NameTwice

-- the declaration of a table, after those before it
abbrev pub walk_table : List TableText → TableText → Result (Unit {0}) Bad
walk_table before table =
    fresh (λ other. other.name) 64 before table >>= λ _.
    in_order (fresh (λ column. column.name) 32) [] table.columns >>= λ _.
    in_order (listed table.columns) [] table.key >>= λ _.
    in_order (listed table.columns) [] table.index

-- the kind of the column of a name
abbrev pub column_kind : List ColumnText → List ℕ → Option Kind
column_kind [] name = None
column_kind (column ∷ columns) name = cond (bytes_eq column.name.name name) (Some column.kind) (column_kind columns name)

-- the number of the table of a name
abbrev pub known_table : List TableText → Named → Result ℕ Bad
known_table tables name = found (position_from (λ table. bytes_eq table.name.name name.name) 0 tables) name.line UnknownName

-- the columns of a table, where there is one
abbrev pub columns_in : Option TableText → List ColumnText
columns_in None = []
columns_in (Some table) = table.columns

-- the columns of the table of a number
abbrev pub columns_of : List TableText → ℕ → List ColumnText
columns_of tables number = columns_in (slice_get tables number)

-- the names of the key columns of a table, where there is one
abbrev pub key_in : Option TableText → List Named
key_in None = []
key_in (Some table) = table.key

-- the names of the key columns of the table of a number
abbrev pub key_of : List TableText → ℕ → List Named
key_of tables number = key_in (slice_get tables number)

-- a span may be on the column of a name: it is the first of the key, or indexed
abbrev pub is_spanned_in : Option TableText → List ℕ → Bool
is_spanned_in None name = false
is_spanned_in (Some table) name = has_name (λ other. other) (take 1 table.key) name || has_name (λ other. other) table.index name

-- the same of the table of a number
abbrev pub is_spanned : List TableText → ℕ → List ℕ → Bool
is_spanned tables number name = is_spanned_in (slice_get tables number) name

-- a column of the table of a number, and its kind
abbrev pub known_column : List TableText → ℕ → Named → Result Kind Bad
known_column tables number name = found (column_kind (columns_of tables number) name.name) name.line UnknownName
