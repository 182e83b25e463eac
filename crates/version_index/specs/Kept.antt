-- What a store of versions keeps true of its log and its indexes.
use Rattle.std.specs.Prelude.{◌≡◌, ◌≤◌, ℕ, List, length, map}
use Rattle.rel_base.specs.declared.schema.TableDef.{TableDef}
use Rattle.rel_base.specs.Tables.{HistoryFits, Stamped}
use Rattle.row_sets.specs.Log.{history_of}
use Rattle.row_sets.specs.declared.entry.LogEntry.{LogEntry}
use Rattle.version_index.specs.Index.{AreNoted, columns_in, index_columns}
use Rattle.version_index.specs.Log.{InOrder}
use Rattle.version_index.specs.declared.index.TableIndex.{TableIndex}

-- the writes fit their tables and stand in order, and the indexes, one for each table, tell of the first of them, as many as are noted
pub record IsStore (defs : List TableDef) (entries : List LogEntry) (indexes : List TableIndex) (noted : ℕ) : Type 0 where
  pub fits : HistoryFits defs (history_of entries)
  pub in_order : InOrder (history_of entries)
  pub within : noted ≤ length entries
  pub told : AreNoted indexes (history_of entries) noted
  pub columns : columns_in indexes ≡ map index_columns defs

-- what contracts see of a store: the declarations of its tables, its history, how many writes it has room for, and how many are in the
-- tail of its log
abbrev pub store_tables : List TableDef × (List Stamped × (ℕ × ℕ)) → List TableDef
store_tables store = store.0

abbrev pub store_history : List TableDef × (List Stamped × (ℕ × ℕ)) → List Stamped
store_history store = store.1.0

abbrev pub store_spare : List TableDef × (List Stamped × (ℕ × ℕ)) → ℕ
store_spare store = store.1.1.0

abbrev pub store_tail : List TableDef × (List Stamped × (ℕ × ℕ)) → ℕ
store_tail store = store.1.1.1
