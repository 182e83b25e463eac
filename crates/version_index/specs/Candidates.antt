-- Keys that may have a row that a span covers.
use Rattle.std.specs.Prelude.{◌≡◌, ◌<◌, ◌≤◌, ℕ, All, Bool, List, [], ◌∷◌, Contains, Option, Some, None, cond, is_some, slice_get, take, true}
use Rattle.std.specs.Borrow.{Bor}
use Rattle.std.specs.List.{list_any}
use Rattle.std.specs.declared.ops.Bound.{Bound}
use Rattle.std.specs.declared.ops.Bound.TheVariants.{Included, Unbounded}
use Rattle.std.specs.BTreeSet.{BTreeSet}
use Rattle.std.specs.BTreeMap.Range.{range_contains}
use Rattle.std.specs.Option.{IsSomeAnd}
use Rattle.std.specs.Ordering.{is_le}
use Rattle.rel_base.specs.Row.{is_from, is_up_to}
use Rattle.rel_base.specs.Tables.{Stamped}
use Rattle.rel_base.specs.Value.{key_cmp, key_eq, value_cmp, value_eq}
use Rattle.rel_base.specs.declared.value.Value.{Value}
use Rattle.version_index.specs.Chains.{slot_in, slot_of}
use Rattle.version_index.specs.Columns.{has_in, has_slot, touches_at}
use Rattle.version_index.specs.Left.{left_at}
use Rattle.version_index.specs.View.{history_in}
use Rattle.version_index.specs.declared.chains.Chains.{Chains}
use Rattle.version_index.specs.declared.view.TableView.{TableView}

-- whether a key is among those that were found
abbrev pub has_key : List (Bor (List Value) × Option ℕ) → List Value → Bool
has_key found key = list_any (λ c. key_eq key c.0.now) found

-- a key with its slot
abbrev pub IsCandidate : Chains → Bor (List Value) × Option ℕ → Type 0
IsCandidate chains c = c.1 ≡ slot_of chains c.0.now

-- keys were added, each with its slot: all those that are wanted are there
pub record Adds (chains : Chains) (old new : List (Bor (List Value) × Option ℕ)) (Wanted : List Value → Type 0) : Type 0 where
  pub right : All (IsCandidate chains) old → All (IsCandidate chains) new
  pub kept : (key : List Value) → has_key old key ≡ true → has_key new key ≡ true
  pub added : (key : List Value) → Wanted key → has_key new key ≡ true

-- the key of the write of a number
abbrev pub IsKeyOf : TableView → ℕ → List Value → Type 0
IsKeyOf view number key = IsSomeAnd (slice_get (history_in view) number) (λ stamped. stamped.1.write.key ≡ key)

-- the slot of the key of the write of a number
abbrev pub HasSlotAt : TableView → ℕ → Option ℕ → Type 0
HasSlotAt view number slot = IsSomeAnd (slice_get (history_in view) number) (λ stamped. slot ≡ slot_of view.index.now.chains stamped.1.write.key)

-- it is on the table, and the key is its key
abbrev pub IsOwnKeyOf : TableView → ℕ → List Value → Type 0
IsOwnKeyOf view number key = IsSomeAnd (slice_get (history_in view) number) (λ stamped. (stamped.1.write.table ≡ view.table) × (stamped.1.write.key ≡ key))

-- a key has a row after the noted writes
abbrev pub HasRow : TableView → List Value → Type 0
HasRow view key = is_some (left_at (view.table, key) (take view.noted (history_in view))) ≡ true

-- a key has a row and a slot
abbrev pub HasSlot : TableView → ℕ → List Value → Type 0
HasSlot view slot key = HasRow view key × (slot_of view.index.now.chains key ≡ Some slot)

-- its slot is one of some
abbrev pub IsAtOne : TableView → BTreeSet ℕ → List Value → Type 0
IsAtOne view slots key = (slot : ℕ) × HasSlot view slot key × (has_in (Some slots) slot ≡ true)

-- a value lies between the ends that are given
abbrev pub IsBetween : Option Value → Option Value → Value → Type 0
IsBetween low high value = (is_from low value ≡ true) × (is_up_to high value ≡ true)

-- its slot is at a value between the ends that are given
abbrev pub IsAtBetween : TableView → List (Value × BTreeSet ℕ) → Option Value → Option Value → List Value → Type 0
IsAtBetween view living low high key = (slot : ℕ) × (value : Value) × HasSlot view slot key × IsBetween low high value × (has_slot living value slot ≡ true)

-- a key stands in a map between two ends
abbrev pub StandsBetween : List (List Value × ℕ) → Bound (List Value) → Bound (List Value) → List Value → Type 0
StandsBetween slots low high key = (range_contains key_cmp low high key ≡ true) × (is_some (slot_in slots key) ≡ true)

-- a write from a number on is on the table and key
abbrev pub IsWrittenFrom : TableView → ℕ → List Value → Type 0
IsWrittenFrom view start key =
    (number : ℕ) × (stamped : Stamped) × (start ≤ number) × (slice_get (history_in view) number ≡ Some stamped) × (stamped.1.write.table ≡ view.table) × (stamped.1.write.key ≡ key)

-- a noted write on the key in a block above a height touched a value
abbrev pub IsTouchedAbove : TableView → ℕ → Value → ℕ → List Value → Type 0
IsTouchedAbove view column value height key =
    (number : ℕ) × (stamped : Stamped) × (number < view.noted) × (slice_get (history_in view) number ≡ Some stamped) × (height < stamped.0)
    × (touches_at view.table column value (history_in view) number ≡ true) × (stamped.1.write.key ≡ key)

-- a write on the key in a block above a height is one of some numbers
abbrev pub IsListedAbove : TableView → List ℕ → ℕ → List Value → Type 0
IsListedAbove view numbers height key =
    (number : ℕ) × (stamped : Stamped) × Contains numbers number × (slice_get (history_in view) number ≡ Some stamped) × (height < stamped.0) × (stamped.1.write.key ≡ key)

-- an end of a span
abbrev pub end_of : Option Value → Bound Value
end_of None = Unbounded
end_of (Some value) = Included value

-- an end of a span of keys of one value
abbrev pub key_end_of : Option Value → Bound (List Value)
key_end_of None = Unbounded
key_end_of (Some value) = Included (value ∷ [])

-- whether no end is above the other
abbrev pub is_forward : Option Value → Option Value → Bool
is_forward None high = true
is_forward (Some low) None = true
is_forward (Some low) (Some high) = is_le (value_cmp low high)

-- the one value of a span, where it has one
abbrev pub only_value : Option Value → Option Value → Option Value
only_value None high = None
only_value (Some low) None = None
only_value (Some low) (Some high) = cond (value_eq low high) (Some low) None
