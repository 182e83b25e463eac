-- The log, as the index of one table sees it.
use Rattle.std.specs.Prelude.{◌≡◌, ◌≤◌, ◌++◌, ◌∷◌, ℕ, List, [], Option, Some, None, length, slice_get}
use Rattle.rel_base.specs.Access.{ReadFits, covers_some, read_table}
use Rattle.rel_base.specs.Tables.{HistoryFits, Stamped}
use Rattle.rel_base.specs.declared.access.Read.{Read}
use Rattle.rel_base.specs.declared.schema.TableDef.{TableDef}
use Rattle.rel_base.specs.declared.value.Value.{Value}
use Rattle.row_sets.specs.Versions.{Hit}
use Rattle.row_sets.specs.Log.{history_of}
use Rattle.version_index.specs.Chain.{is_on}
use Rattle.version_index.specs.Index.{HasColumns, IsIndex}
use Rattle.version_index.specs.Log.{InOrder}
use Rattle.version_index.specs.Numbers.{lesser, passes_at, passing}
use Rattle.version_index.specs.declared.keyed.Back.{Back}
use Rattle.version_index.specs.declared.view.TableView.{TableView}

-- the history that the log keeps
abbrev pub history_in : TableView → List Stamped
history_in view = history_of view.entries.now

-- the index tells of the noted entries, which are the first of the log, and the log is in order
pub record IsView (view : TableView) : Type 0 where
  pub index : IsIndex view.table (history_in view) view.noted view.index.now
  pub within : view.noted ≤ length view.entries.now
  pub in_order : InOrder (history_in view)

-- a read is of the table of the index, whose columns are those of the declaration, and the read and the history fit declared tables
pub record IsAsked (def : TableDef) (read : Read) (view : TableView) : Type 0 where
  pub defs : List TableDef
  pub declared : slice_get defs view.table ≡ Some def
  pub history : HistoryFits defs (history_in view)
  pub table : view.table ≡ read_table read
  pub fits : ReadFits def read
  pub columns : HasColumns def view.index.now

-- the numbers of the noted writes on a key below a number
abbrev pub noted_below : TableView → List Value → ℕ → List ℕ
noted_below view key end = passing (passes_at (is_on (view.table, key)) (history_in view)) (lesser end view.noted)

-- the last of some numbers, and those before it
abbrev pub IsBack : List ℕ → Option Back → Type 0
IsBack numbers None = numbers ≡ []
IsBack numbers (Some back) = numbers ≡ back.left.now ++ back.number ∷ []

-- what is reported of a write that a read of a declared table hits
abbrev pub hit_told : TableDef → Read → Stamped → Hit
hit_told def read stamped = record {
  place = record { block = stamped.0; pos = stamped.1.pos };
  key = stamped.1.write.key;
  stale = covers_some def read stamped.1.write.before;
}
