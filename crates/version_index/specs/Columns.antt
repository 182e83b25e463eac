-- What an index by the values of a column keeps.
use Rattle.std.specs.Prelude.{◌≡◌, IsSomeAnd, ◌==◌, ◌&&◌, ◌||◌, ◌++◌, ◌∷◌, ℕ, List, [], Bool, true, false, not, Option, Some, None, cond, length, slice_get, take}
use Rattle.std.specs.BTreeMap.{is_at}
use Rattle.std.specs.BTreeSet.{BTreeSet, contains}
use Rattle.std.specs.Map.{lookup}
use Rattle.std.specs.Option.{option_and_then}
use Rattle.std.specs.Ordering.{nat_cmp}
use Rattle.std.specs.declared.alloc.Global.{Global}
use Rattle.std.specs.declared.vec.Vec.{Vec}
use Rattle.rel_base.specs.Tables.{Stamped, write_ref}
use Rattle.rel_base.specs.Value.{value_cmp, value_eq}
use Rattle.rel_base.specs.declared.access.Write.{Write}
use Rattle.rel_base.specs.declared.value.Value.{Value}
use Rattle.version_index.specs.Chains.{HasRoomForNumber, lists_in, numbers_at, slot_of}
use Rattle.version_index.specs.Left.{left_at}
use Rattle.version_index.specs.Numbers.{passing}
use Rattle.version_index.specs.declared.chains.Chains.{Chains}
use Rattle.version_index.specs.declared.column.ColumnIndex.{ColumnIndex}
use Rattle.version_index.specs.declared.touched.Touched.{Touched}

-- ---- the value of a row in a column

-- the value in a column of a row that may be there, where the row has the column
abbrev pub cell : ℕ → Option (List Value) → Option Value
cell column row = option_and_then (λ r. slice_get r column) row

-- whether a value that may be there is a value
abbrev pub has : Value → Option Value → Bool
has value None = false
has value (Some other) = value_eq value other

-- whether a value is there that another is one with
abbrev pub has_same : Option Value → Option Value → Bool
has_same None other = false
has_same (Some value) other = has value other

-- ---- slots by values

-- whether a slot is one of some that may be there
abbrev pub has_in : Option (BTreeSet ℕ) → ℕ → Bool
has_in None slot = false
has_in (Some slots) slot = contains nat_cmp slots slot

-- whether a slot is one of those at a value
abbrev pub has_slot : List (Value × BTreeSet ℕ) → Value → ℕ → Bool
has_slot living value slot = has_in (lookup (is_at (value_cmp value)) living) slot

-- a slot is at each value that a row may have
abbrev pub IsHeld : List (Value × BTreeSet ℕ) → Option Value → ℕ → Type 0
IsHeld living row slot = (value : Value) → has value row ≡ true → has_slot living value slot ≡ true

-- a slot is at each value that a row may have, where it is another value than one that may be there
abbrev pub IsHeldUnless : List (Value × BTreeSet ℕ) → Option Value → Option Value → ℕ → Type 0
IsHeldUnless living row other slot = (value : Value) → (has value row && not (has value other)) ≡ true → has_slot living value slot ≡ true

-- ---- numbers by values

-- the place of a value in a map
abbrev pub place_in : List (Value × ℕ) → Value → Option ℕ
place_in places value = lookup (is_at (value_cmp value)) places

abbrev pub place_of : Touched → Value → Option ℕ
place_of touched value = place_in touched.places.entries value

-- the numbers at a place
abbrev pub list_of : Touched → ℕ → List ℕ
list_of touched place = numbers_at (lists_in touched.lists.items) (Some place)

-- the numbers at a value
abbrev pub touched_at : Touched → Value → List ℕ
touched_at touched value = numbers_at (lists_in touched.lists.items) (place_of touched value)

-- there is room for one more number at a value
abbrev pub HasRoomAt : Touched → Value → Type 0
HasRoomAt touched value = IsSomeAnd (place_of touched value) (HasRoomForNumber touched.lists.items)

-- a value has a place in the map exactly where it stands at that place, and each place has a list
pub record HavePlaces (places : List (Value × ℕ)) (values : List Value) (lists : List (Vec ℕ Global)) : Type 0 where
  pub own : (value : Value) (place : ℕ) → place_in places value ≡ Some place → slice_get values place ≡ Some value
  pub keyed : (value : Value) (place : ℕ) → slice_get values place ≡ Some value → place_in places value ≡ Some place
  pub long : length lists ≡ length values

abbrev pub AreListed : Touched → Type 0
AreListed touched = HavePlaces touched.places.entries touched.values.items touched.lists.items

-- there is room at each value that a row may have
abbrev pub IsRoomy : Touched → Option Value → Type 0
IsRoomy touched row = (value : Value) → has value row ≡ true → HasRoomAt touched value

-- ---- what they are of a history

-- whether a write on a table touches a value: it found a row with the value, or has it in its row before or its row after
abbrev pub touches : ℕ → ℕ → Value → List Stamped → Option Stamped → Bool
touches table column value past None = false
touches table column value past (Some stamped) =
    (table == stamped.1.write.table)
    && (has value (cell column (left_at (write_ref stamped.1.write) past)) || has value (cell column stamped.1.write.before) || has value (cell column stamped.1.write.after))

-- whether the write of a number does
abbrev pub touches_at : ℕ → ℕ → Value → List Stamped → ℕ → Bool
touches_at table column value history number = touches table column value (take number history) (slice_get history number)

-- an index tells of the first writes of a history, as many as are noted, which keys have a row with each value, and which writes touched
-- it. Of the slots of the keys none is missing; whether a slot is there that should not, is not said
pub record IsColumn (table : ℕ) (history : List Stamped) (noted : ℕ) (chains : Chains) (column : ColumnIndex) : Type 0 where
  pub living : (key : List Value) (slot : ℕ) (value : Value) → slot_of chains key ≡ Some slot → has value (cell column.column (left_at (table, key) (take noted history))) ≡ true
      → has_slot column.living.entries value slot ≡ true
  pub touched : (value : Value) → touched_at column.touched value ≡ passing (touches_at table column.column value history) noted
  pub listed : AreListed column.touched

-- ---- one more write

-- nothing that an index tells has changed, but for slots that are at more values
pub record IsSameColumn (old new : ColumnIndex) : Type 0 where
  pub column : new.column ≡ old.column
  pub living : (value : Value) (slot : ℕ) → has_slot old.living.entries value slot ≡ true → has_slot new.living.entries value slot ≡ true
  pub touched : (value : Value) → touched_at new.touched value ≡ touched_at old.touched value
  pub listed : AreListed old.touched → AreListed new.touched

-- a write on the key of a slot, which found a row, can be noted without memory: its slot is at its new value already, where that is
-- another one than the one that was found
pub record IsReady (slot : ℕ) (found : Option (List Value)) (write : Write) (column : ColumnIndex) : Type 0 where
  pub held : IsHeldUnless column.living.entries (cell column.column write.after) (cell column.column found) slot
  pub found_room : IsRoomy column.touched (cell column.column found)
  pub before_room : IsRoomy column.touched (cell column.column write.before)
  pub after_room : IsRoomy column.touched (cell column.column write.after)
  pub listed : AreListed column.touched

-- the slot of its key is at the value of its row after, no other slot is lost, and its number is the last one at each value that it touches
pub record IsNotedIn (slot : ℕ) (found : Option (List Value)) (write : Write) (number : ℕ) (old new : ColumnIndex) : Type 0 where
  pub column : new.column ≡ old.column
  pub own : IsHeldUnless new.living.entries (cell old.column write.after) (cell old.column found) slot
  pub kept : (value : Value) (s : ℕ) → has_slot old.living.entries value s ≡ true → (s == slot && not (has value (cell old.column write.after))) ≡ false → has_slot new.living.entries value s ≡ true
  pub touched : (value : Value) → touched_at new.touched value
      ≡ cond (has value (cell old.column found) || has value (cell old.column write.before) || has value (cell old.column write.after)) (touched_at old.touched value ++ number ∷ []) (touched_at old.touched value)
  pub listed : AreListed new.touched
