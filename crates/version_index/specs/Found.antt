-- The version of a key that is visible at a height, and what it costs to find it.
use Rattle.std.specs.Prelude.{◌≡◌, ◌-◌, ℕ, Bool, List, Option, Some, None, is_some, length, nat_le, slice_get, true}
use Rattle.std.specs.FinMap.{get}
use Rattle.std.specs.List.{filter}
use Rattle.std.specs.Option.{IsSomeAnd, option_map}
use Rattle.rel_base.specs.Tables.{Stamped, tables_at}
use Rattle.rel_base.specs.declared.value.Value.{Value}
use Rattle.row_sets.specs.Lifespans.{is_of_table}
use Rattle.version_index.specs.Chain.{IsLast, is_seen}
use Rattle.version_index.specs.Numbers.{passes_at}
use Rattle.version_index.specs.Rows.{seen_of}
use Rattle.version_index.specs.declared.look_up.Probed.{Probed}
use Rattle.version_index.specs.declared.view.TableView.{TableView}

-- a write left the row that the tables at a height have at a table and key
abbrev pub IsVisible : ℕ × List Value → ℕ → List Stamped → Stamped → Type 0
IsVisible ref height history stamped = (is_some stamped.1.write.after ≡ true) × (get (tables_at height history) ref ≡ seen_of stamped)

-- the number of the version of a key that is visible at a height: of the last write on the key in the blocks up to the height, which
-- left the row that the key has there. There is none exactly where the key has no row there
abbrev pub IsVersion : ℕ × List Value → ℕ → List Stamped → Option ℕ → Type 0
IsVersion ref height history None = get (tables_at height history) ref ≡ None
IsVersion ref height history (Some number) = IsLast (is_seen ref height) history (Some number) × IsSomeAnd (slice_get history number) (IsVisible ref height history)

-- how many writes of a history are on a table
abbrev pub count_on : ℕ → List Stamped → ℕ
count_on table history = length (filter (is_of_table table) history)

-- whether the write of a number is in no block above a height
abbrev pub is_low : List Stamped → ℕ → ℕ → Bool
is_low history height number = passes_at (λ stamped. nat_le stamped.0 height) history number

-- how many entries of the log are in its tail
abbrev pub tail_in : TableView → ℕ
tail_in view = length view.entries.now - view.noted

-- a write that was looked at is the entry of its number
abbrev pub IsProbed : TableView → Probed → Type 0
IsProbed view probed = slice_get view.entries.now probed.number ≡ Some probed.entry.now

-- the number of a write that may have been looked at
abbrev pub number_of : Option Probed → Option ℕ
number_of found = option_map (λ probed. probed.number) found
