-- The keys of slots.
use Rattle.std.proofs.Common.{◌≡◌, ◌∙◌, ℕ, List, ◌∷◌, ◌++◌, Bool, true, Contains, Option, Some, None, is_some, refl, ap, arith, subst, sym}
use Rattle.std.specs.BTreeMap.{is_at}
use Rattle.std.specs.BTreeSet.{BTreeSet}
use Rattle.std.specs.List.Sorted.{IsStrictlySortedBy}
use Rattle.std.specs.Map.{keys_of, lookup}
use Rattle.std.specs.Ordering.{is_eq, nat_cmp}
use Rattle.std.specs.declared.ops.Bound.{Bound}
use Rattle.std.specs.BTreeMap.Range.{range_contains}
use Rattle.std.specs.List.{filter}
use Rattle.std.proofs.lemmas.Map.Lookups.{exact_unsigned}
use Rattle.std.proofs.lemmas.Map.Views.{Contains-from_any, Contains-from_lookup}
use Rattle.rel_base.specs.Tables.{Stamped}
use Rattle.rel_base.specs.Value.{key_cmp, key_cmp-exact, value_cmp, value_cmp-exact, value_cmp-total}
use Rattle.rel_base.specs.declared.value.Value.{Value}
use Rattle.rel_base.proofs.Bits.{is_Equal}
use Rattle.version_index.specs.Candidates.{HasSlot, IsBetween, IsAtBetween, IsAtOne, IsListedAbove, IsTouchedAbove, StandsBetween, end_of}
use Rattle.version_index.specs.Chains.{lists_in, lists_of, numbers_at, slot_in}
use Rattle.version_index.specs.Hits.{IsNumberBetween}
use Rattle.version_index.specs.Columns.{IsColumn, has_in, list_of, place_of, touched_at, touches_at}
use Rattle.version_index.specs.Numbers.{ArePassing}
use Rattle.version_index.specs.declared.chains.Chains.{Chains}
use Rattle.version_index.specs.declared.column.ColumnIndex.{ColumnIndex}
use Rattle.version_index.specs.declared.touched.Touched.{Touched}
use Rattle.version_index.specs.View.{history_in}
use Rattle.version_index.specs.declared.view.TableView.{TableView}
use Rattle.version_index.proofs.Adding.{ByOne}
use Rattle.version_index.proofs.Passing.{passing_all}
use Rattle.version_index.proofs.Ranges.{found_next, in_range, passes_filter, some_there}

-- a slot that is one of some is one of the entries
pub by_slot : (view : TableView) (slots : BTreeSet ℕ) (key : List Value) → IsAtOne view slots key → ByOne slots.keys (HasSlot view) key
by_slot view slots key (slot, has, is) = (slot, Contains-from_any {eq = λ x y. is_eq (nat_cmp x y)} (λ x y tied. exact_unsigned x y (is_Equal (nat_cmp x y) tied)) slot slots.keys is, has)

-- slots at a value between two ends are among the entries between them
pub by_values : (view : TableView) (living : List (Value × BTreeSet ℕ)) (low high : Option Value) (key : List Value) → IsAtBetween view living low high key
    → ByOne (filter (λ e. range_contains value_cmp (end_of low) (end_of high) e.0) living) (λ e k. IsAtOne view e.1 k) key
by_values view living low high key (slot, value, has, between, is) = go (lookup (is_at (value_cmp value)) living) refl is
  where
    go : (found : Option (BTreeSet ℕ)) → lookup (is_at (value_cmp value)) living ≡ found → has_in found slot ≡ true
        → ByOne (filter (λ e. range_contains value_cmp (end_of low) (end_of high) e.0) living) (λ e k. IsAtOne view e.1 k) key
    go None there is = cc
    go (Some slots) there is = (
      (value, slots),
      passes_filter (λ e. range_contains value_cmp (end_of low) (end_of high) e.0) living (value, slots)
          (Contains-from_lookup (λ x y tied. value_cmp-exact x y (is_Equal (value_cmp x y) tied)) value slots living there) (in_range low high value between),
      (slot, has, is),
    )

-- a key that stands in a map is among the entries between two ends
pub by_keys : (slots : List (List Value × ℕ)) (low high : Bound (List Value)) (key : List Value) → StandsBetween slots low high key → ByOne (filter (λ e. range_contains key_cmp low high e.0) slots) (λ e k. k ≡ e.0) key
by_keys slots low high key stands =
    let found = some_there (lookup (is_at (key_cmp key)) slots) stands.1 in (
      (key, found.0),
      passes_filter (λ e. range_contains key_cmp low high e.0) slots (key, found.0) (Contains-from_lookup (λ x y tied. key_cmp-exact x y (is_Equal (key_cmp x y) tied)) key found.0 slots found.1) stands.0,
      refl,
    )

-- and so is a key that stands there anywhere
pub by_key : (slots : List (List Value × ℕ)) (key : List Value) → is_some (slot_in slots key) ≡ true → ByOne slots (λ e k. k ≡ e.0) key
by_key slots key stands =
    let found = some_there (lookup (is_at (key_cmp key)) slots) stands in
    ((key, found.0), Contains-from_lookup (λ x y tied. key_cmp-exact x y (is_Equal (key_cmp x y) tied)) key found.0 slots found.1, refl)

-- and so is a number of one
pub by_slots : (chains : Chains) (slots : List (List Value × ℕ)) (low high : Bound (List Value)) (number : ℕ) → IsNumberBetween chains slots low high number
    → ByOne (filter (λ e. range_contains key_cmp low high e.0) slots) (λ e n. Contains (numbers_at (lists_of chains) (Some e.1)) n) number
by_slots chains slots low high number (key, slot, there, between, inside) = (
  (key, slot),
  passes_filter (λ e. range_contains key_cmp low high e.0) slots (key, slot) (Contains-from_lookup (λ x y tied. key_cmp-exact x y (is_Equal (key_cmp x y) tied)) key slot slots there) between,
  inside,
)

-- ---- the numbers at values

-- a number at a value between two ends is among the entries between them
pub by_numbers : (touched : Touched) (low high : Option Value) (value : Value) (number : ℕ) → IsBetween low high value → Contains (touched_at touched value) number
    → ByOne (filter (λ e. range_contains value_cmp (end_of low) (end_of high) e.0) touched.places.entries) (λ e n. Contains (list_of touched e.1) n) number
by_numbers touched low high value number between inside = go (place_of touched value) refl inside
  where
    go : (found : Option ℕ) → place_of touched value ≡ found → Contains (numbers_at (lists_in touched.lists.items) found) number
        → ByOne (filter (λ e. range_contains value_cmp (end_of low) (end_of high) e.0) touched.places.entries) (λ e n. Contains (list_of touched e.1) n) number
    go None there inside = let below = inside.1 in absurd (omega (arith, below))
    go (Some place) there inside = (
      (value, place),
      passes_filter (λ e. range_contains value_cmp (end_of low) (end_of high) e.0) touched.places.entries (value, place)
          (Contains-from_lookup (λ x y tied. value_cmp-exact x y (is_Equal (value_cmp x y) tied)) value place touched.places.entries there) (in_range low high value between),
      inside,
    )

-- the numbers of an entry between two ends that stands after others are those of the noted writes that touched its value
pub numbers_pass : (table : ℕ) (history : List Stamped) (noted : ℕ) (chains : Chains) (column : ColumnIndex) → IsColumn table history noted chains column → (p : Value × ℕ → Bool) (done rest left all : List (Value × ℕ)) (e : Value × ℕ)
    → IsStrictlySortedBy value_cmp (keys_of column.touched.places.entries) → done ++ left ≡ all → all ≡ filter p column.touched.places.entries → left ≡ e ∷ rest → ArePassing noted (list_of column.touched e.1)
numbers_pass table history noted chains column is p done rest left all e rise whole kept next =
    (touches_at table column.column e.0 history, sym (ap (numbers_at (lists_in column.touched.lists.items)) (found_next value_cmp value_cmp-total column.touched.places.entries p done rest left all e rise whole kept next)) ∙ is.touched e.0)

-- a key of a write that touched a value is one of the writes of the numbers at it
pub listed_at : (view : TableView) (column : ColumnIndex) (value : Value) (height : ℕ) (key : List Value) → IsColumn view.table (history_in view) view.noted view.index.now.chains column
    → IsTouchedAbove view column.column value height key → IsListedAbove view (touched_at column.touched value) height key
listed_at view column value height key is above = (
  above.0,
  above.1,
  subst (λ numbers. Contains numbers above.0) (sym (is.touched value)) (passing_all (touches_at view.table column.column value (history_in view)) view.noted above.0 above.2 above.5),
  above.3,
  above.4,
  above.6,
)

-- and of one of the entries between two ends, where the value lies there
pub by_listed : (view : TableView) (column : ColumnIndex) (low high : Option Value) (value : Value) (height : ℕ) (key : List Value) → IsBetween low high value → IsListedAbove view (touched_at column.touched value) height key
    → ByOne (filter (λ e. range_contains value_cmp (end_of low) (end_of high) e.0) column.touched.places.entries) (λ e k. IsListedAbove view (list_of column.touched e.1) height k) key
by_listed view column low high value height key between above =
    let found = by_numbers column.touched low high value above.0 between above.2 in
    (found.0, found.1, (above.0, above.1, found.2, above.3, above.4, above.5))
