-- What the index of a table keeps.
use Rattle.std.specs.Prelude.{◌≡◌, ◌==◌, ◌++◌, ℕ, All, List, [], Option, Some, None, cond, length, map, slice_get, take}
use Rattle.std.specs.Option.{IsSomeAnd, option_and_then}
use Rattle.rel_base.specs.Tables.{Stamped}
use Rattle.rel_base.specs.declared.schema.TableDef.{TableDef}
use Rattle.rel_base.specs.declared.value.Value.{Value}
use Rattle.row_sets.specs.Log.{history_of}
use Rattle.row_sets.specs.declared.entry.LogEntry.{LogEntry}
use Rattle.version_index.specs.Chains.{AreChains}
use Rattle.version_index.specs.Numbers.{last_in}
use Rattle.version_index.specs.Columns.{IsColumn}
use Rattle.version_index.specs.declared.column.ColumnIndex.{ColumnIndex}
use Rattle.version_index.specs.declared.index.TableIndex.{TableIndex}

-- the columns of a table that have an index by their values: the declared ones, and the first key column where the key has more
-- (a span of the whole key goes by the keys themselves)
abbrev pub index_columns : TableDef → List ℕ
index_columns def = cond (length def.key == 1) [] (take 1 def.key) ++ def.index

-- the index of a table tells the first writes of a history, as many as are noted
pub record IsIndex (table : ℕ) (history : List Stamped) (noted : ℕ) (index : TableIndex) : Type 0 where
  pub chains : AreChains table history noted index.chains
  pub columns : All (IsColumn table history noted index.chains) index.columns.items

-- the index has the columns that its table is to have
abbrev pub HasColumns : TableDef → TableIndex → Type 0
HasColumns def index = map (λ column. column.column) index.columns.items ≡ index_columns def

-- the indexes of all tables tell the first writes of a history
abbrev pub AreNoted : List TableIndex → List Stamped → ℕ → Type 0
AreNoted indexes history noted = (table : ℕ) (index : TableIndex) → slice_get indexes table ≡ Some index → IsIndex table history noted index

-- the columns of the indexes of all tables
abbrev pub columns_in : List TableIndex → List (List ℕ)
columns_in indexes = map (λ index. map (λ column. column.column) index.columns.items) indexes

-- the row that a write that may be there left
abbrev pub row_after : Option Stamped → Option (List Value)
row_after None = None
row_after (Some stamped) = stamped.1.write.after

-- the row that the last of some writes left, by their numbers
abbrev pub row_by : List Stamped → List ℕ → Option (List Value)
row_by history numbers = row_after (option_and_then (slice_get history) (last_in numbers))

-- an index that tells of no write
abbrev pub IsEmptyColumn : ColumnIndex → Type 0
IsEmptyColumn column = (column.living.entries ≡ []) × (column.touched.places.entries ≡ []) × (column.touched.values.items ≡ []) × (column.touched.lists.items ≡ [])

pub record IsEmptyIndex (index : TableIndex) : Type 0 where
  pub living : index.chains.living.entries ≡ []
  pub ended : index.chains.ended.entries ≡ []
  pub numbers : index.chains.numbers.items ≡ []
  pub lasts : index.chains.lasts.items ≡ []
  pub columns : All IsEmptyColumn index.columns.items

-- the index of the table of the entry of a number tells the first entries, as many as are noted
abbrev pub IsIndexOf : List LogEntry → ℕ → ℕ → TableIndex → Type 0
IsIndexOf entries number noted index = IsSomeAnd (slice_get entries number) (λ entry. IsIndex entry.placed.write.table (history_of entries) noted index)
