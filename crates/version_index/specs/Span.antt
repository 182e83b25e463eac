-- Which keys a span wants after the block of a height, and which of them changed since.
use Rattle.std.specs.Prelude.{◌≡◌, ◌<◌, ◌≤◌, ◌⊎◌, ◌∷◌, ◌&&◌, ℕ, All, Bool, List, [], Option, Some, None, cond, false, map, slice_get, true}
use Rattle.std.specs.Borrow.{Bor}
use Rattle.std.specs.declared.ops.Bound.{Bound}
use Rattle.std.specs.FinMap.{get}
use Rattle.std.specs.Ordering.{is_lt}
use Rattle.rel_base.specs.Tables.{Stamped, tables_at}
use Rattle.rel_base.specs.Value.{key_cmp, key_eq}
use Rattle.rel_base.specs.declared.access.Seen.{Seen}
use Rattle.rel_base.specs.declared.value.Value.{Value}
use Rattle.version_index.specs.Candidates.{IsBetween, IsTouchedAbove, IsWrittenFrom, StandsBetween}
use Rattle.version_index.specs.Columns.{cell}
use Rattle.version_index.specs.View.{history_in}
use Rattle.version_index.specs.declared.view.TableView.{TableView}

-- a write on the key stands in a block above a height or in the tail
abbrev pub IsChangedAbove : TableView → ℕ → List Value → Type 0
IsChangedAbove view height key =
    (number : ℕ) × (stamped : Stamped) × (slice_get (history_in view) number ≡ Some stamped) × (stamped.1.write.table ≡ view.table) × (stamped.1.write.key ≡ key)
    × ((height < stamped.0) ⊎ (view.noted ≤ number))

-- a write on the key touched a value in a block above a height, or stands in the tail
abbrev pub IsTouchedSince : TableView → ℕ → Value → ℕ → List Value → Type 0
IsTouchedSince view column value height key = IsTouchedAbove view column value height key ⊎ IsWrittenFrom view view.noted key

-- the same of a value between two ends
abbrev pub IsChangedBetween : TableView → ℕ → Option Value → Option Value → ℕ → List Value → Type 0
IsChangedBetween view column low high height key = (value : Value) × IsBetween low high value × IsTouchedSince view column value height key

-- a write on the key stands in a block above a height or in the tail, and the key is in the tail or stands among those whose row was deleted, between two ends
abbrev pub IsLostBetween : TableView → Bound (List Value) → Bound (List Value) → ℕ → List Value → Type 0
IsLostBetween view low high height key =
    IsChangedAbove view height key × (StandsBetween view.index.now.chains.ended.entries low high key ⊎ IsWrittenFrom view view.noted key)

-- the row of a key after the block of a height has a value of a column between two ends
pub record HasCellAt (view : TableView) (column : ℕ) (low high : Option Value) (height : ℕ) (key : List Value) : Type 0 where
  pub seen : Seen
  pub value : Value
  pub is : get (tables_at height (history_in view)) (view.table, key) ≡ Some seen
  pub has : cell column (Some seen.row) ≡ Some value
  pub between : IsBetween low high value

-- a key of one value between two ends has a row after the block of a height
pub record HasKeyAt (view : TableView) (low high : Option Value) (height : ℕ) (key : List Value) : Type 0 where
  pub seen : Seen
  pub value : Value
  pub is : get (tables_at height (history_in view)) (view.table, key) ≡ Some seen
  pub own : key ≡ value ∷ []
  pub between : IsBetween low high value

-- a span of a column wants a key: its row has a value between the ends, and where the column has no index, the key is this value
pub record IsWantedBy (view : TableView) (column : ℕ) (low high : Option Value) (height : ℕ) (key : List Value) : Type 0 where
  pub by_cell : HasCellAt view column low high height key
  pub by_key : All (λ own. own.column ≡ column → ⊥) view.index.now.columns.items → HasKeyAt view low high height key

-- ---- keys that stand in order, each once

abbrev pub keys_in : List (Bor (List Value) × Option ℕ) → List (List Value)
keys_in found = map (λ c. c.0.now) found

-- whether a key is one that may be there
abbrev pub is_again : Option (List Value) → List Value → Bool
is_again None key = false
is_again (Some last) key = key_eq last key

-- the keys without those that stand again after themselves; one may be before them
abbrev pub distinct : Option (List Value) → List (List Value) → List (List Value)
distinct last [] = []
distinct last (key ∷ keys) = cond (is_again last key) (distinct last keys) (key ∷ distinct (Some key) keys)

-- whether a key stands after one that may be there
abbrev pub is_above : Option (List Value) → List Value → Bool
is_above None key = true
is_above (Some last) key = is_lt (key_cmp last key)

-- whether each key stands after the one before it; one may be before them
abbrev pub are_rising : Option (List Value) → List (List Value) → Bool
are_rising last [] = true
are_rising last (key ∷ keys) = is_above last key && are_rising (Some key) keys
