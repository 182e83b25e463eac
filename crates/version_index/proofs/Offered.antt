-- The keys that are offered for a span: by slots, by the numbers of writes and by values.
use Rattle.std.proofs.Common.{◌≡◌, ◌∙◌, ℕ, ◌+◌, ◌<◌, ◌≤◌, ◌⊎◌, inl, inr, List, [], ◌∷◌, ◌++◌, Bool, true, Contains, Option, Some, None, is_some, refl, ap, sym, subst, arith, length, slice_get, take}
use Rattle.std.specs.Option.{IsSomeAnd, option_and_then}
use Rattle.std.proofs.lemmas.List.{length-map}
use Rattle.rel_base.specs.Tables.{Stamped}
use Rattle.rel_base.specs.declared.value.Value.{Value}
use Rattle.rel_base.proofs.Bits.{no_both}
use Rattle.row_sets.specs.Log.{stamped_of}
use Rattle.row_sets.specs.declared.entry.LogEntry.{LogEntry}
use Rattle.version_index.specs.Candidates.{HasSlot, HasSlotAt, IsKeyOf, IsListedAbove, IsOwnKeyOf, IsWrittenFrom}
use Rattle.version_index.specs.Chain.{is_on}
use Rattle.version_index.specs.Chains.{AreChains, lists_of, list_or_none, lives_in, numbers_at, slot_of}
use Rattle.version_index.specs.Index.{row_after, row_by}
use Rattle.version_index.specs.Left.{left_at}
use Rattle.version_index.specs.Log.{InOrder}
use Rattle.version_index.specs.Numbers.{passes_at, passing}
use Rattle.version_index.specs.View.{IsView, history_in}
use Rattle.version_index.specs.declared.chains.Chains.{Chains}
use Rattle.version_index.specs.declared.view.TableView.{TableView}
use Rattle.version_index.proofs.Logged.{blocks_rise, get_history, same_ref}
use Rattle.version_index.proofs.Passing.{IsTop, last_end, left_by_numbers, none_of, not_empty, passing_has, top_of}
use Rattle.version_index.proofs.Points.{below_or, some_at, some_weaker}
use Rattle.version_index.proofs.Slots.{below_got}

-- a list that has an item is one of the lists
within_lists : (lists : List (List ℕ)) (slot : ℕ) (rest : List ℕ) (last : ℕ) → list_or_none (slice_get lists slot) ≡ rest ++ last ∷ [] → slot < length lists
within_lists lists slot rest last is = go (slice_get lists slot) refl is
  where
    go : (found : Option (List ℕ)) → slice_get lists slot ≡ found → list_or_none found ≡ rest ++ last ∷ [] → slot < length lists
    go None absent is = absurd (not_empty rest last (sym is))
    go (Some numbers) there is = below_got lists slot numbers there

module _ (table noted : ℕ) (history : List Stamped) (chains : Chains) (are : AreChains table history noted chains) where
  -- what the last number of a slot tells: a noted write on the key whose slot it is
  pub record SlotLast (slot last : ℕ) : Type 0 where
    pub key : List Value
    pub own : slot_of chains key ≡ Some slot
    pub below : last < noted
    pub on : passes_at (is_on (table, key)) history last ≡ true

  pub slot_last : (slot last : ℕ) (rest : List ℕ) → numbers_at (lists_of chains) (Some slot) ≡ rest ++ last ∷ [] → SlotLast slot last
  slot_last slot last rest there =
      let keyed = are.keyed slot (within_lists (lists_of chains) slot rest last there) in
      let numbers = sym (are.numbers keyed.0) ∙ ap (numbers_at (lists_of chains)) keyed.1 ∙ there in
      let top = top_of (passes_at (is_on (table, keyed.0)) history) noted last rest numbers in
      record { key = keyed.0; own = keyed.1; below = top.below; on = top.on }

  -- the slot is that of the key of its last write
  pub slot_own : (slot last : ℕ) (rest : List ℕ) → numbers_at (lists_of chains) (Some slot) ≡ rest ++ last ∷ [] → IsSomeAnd (slice_get history last) (λ s. Some slot ≡ slot_of chains s.1.write.key)
  slot_own slot last rest there =
      let told = slot_last slot last rest there in
      some_weaker (λ s. is_on (table, told.key) s ≡ true) (λ s. Some slot ≡ slot_of chains s.1.write.key) (slice_get history last)
      (λ s on. sym (ap (λ r. slot_of chains r.1) (same_ref (table, told.key) s on) ∙ told.own)) (some_at (is_on (table, told.key)) history last told.on)

  -- and the key has a row exactly where that write left one
  pub slot_lives : noted ≤ length history → (slot last : ℕ) (rest : List ℕ) → numbers_at (lists_of chains) (Some slot) ≡ rest ++ last ∷ [] → (stamped : Stamped) → slice_get history last ≡ Some stamped
      → slot_of chains stamped.1.write.key ≡ Some slot → lives_in chains stamped.1.write.key ≡ is_some stamped.1.write.after
  slot_lives within slot last rest there stamped is own =
      let key = stamped.1.write.key in
      are.lives key
      ∙ ap is_some
      (sym (left_by_numbers (table, key) history noted within)
      ∙ ap (row_by history) (sym (are.numbers key) ∙ ap (numbers_at (lists_of chains)) own ∙ there)
      ∙ ap (λ found. row_after (option_and_then (slice_get history) found)) (last_end rest last)
      ∙ ap row_after is)

module _ (view : TableView) (is : IsView view) where
  abbrev chains : Chains
  chains = view.index.now.chains

  abbrev history : List Stamped
  history = history_in view

  told_last : (slot last : ℕ) (rest : List ℕ) → numbers_at (lists_of chains) (Some slot) ≡ rest ++ last ∷ [] → SlotLast view.table view.noted history chains is.index.chains slot last
  told_last slot last rest there = slot_last view.table view.noted history chains is.index.chains slot last rest there

  pub last_below : (slot last : ℕ) (rest : List ℕ) → numbers_at (lists_of chains) (Some slot) ≡ rest ++ last ∷ [] → last < length view.entries.now
  last_below slot last rest there = let low = (told_last slot last rest there).below in let within = is.within in omega (arith, low, within)

  -- a slot with no number is of no key with a row
  pub no_slot : (slot : ℕ) (key : List Value) → numbers_at (lists_of chains) (Some slot) ≡ [] → HasSlot view slot key → ⊥
  no_slot slot key empty has =
      let none : left_at (view.table, key) (take view.noted history) ≡ None =
      sym (left_by_numbers (view.table, key) history view.noted (let within = is.within in let same = length-map view.entries.now stamped_of in omega (arith, within, same)))
      ∙ ap (row_by history) (sym (is.index.chains.numbers key) ∙ ap (numbers_at (lists_of chains)) has.1 ∙ empty) in
      no_both (is_some (left_at (view.table, key) (take view.noted history))) has.0 (ap is_some none)

  -- the key of the last write of a slot is the one whose slot it is
  pub last_is_key : (slot last : ℕ) (rest : List ℕ) → numbers_at (lists_of chains) (Some slot) ≡ rest ++ last ∷ [] → (key : List Value) → HasSlot view slot key → IsKeyOf view last key
  last_is_key slot last rest there key has =
      let told = told_last slot last rest there in
      let one : told.key ≡ key = is.index.chains.own told.key key slot told.own has.1 in
      some_weaker (λ s. is_on (view.table, key) s ≡ true) (λ s. s.1.write.key ≡ key) (slice_get history last) (λ s on. ap (λ r. r.1) (same_ref (view.table, key) s on))
      (some_at (is_on (view.table, key)) history last (subst (λ k. passes_at (is_on (view.table, k)) history last ≡ true) one told.on))

  -- and the slot is that of this key
  pub last_is_own : (slot last : ℕ) (rest : List ℕ) → numbers_at (lists_of chains) (Some slot) ≡ rest ++ last ∷ [] → HasSlotAt view last (Some slot)
  last_is_own slot last rest there = slot_own view.table view.noted history chains is.index.chains slot last rest there

-- ---- by numbers that pass a test

-- a noted write on the key from a number on passed a test
abbrev pub PassedFrom : TableView → (ℕ → Bool) → ℕ → List Value → Type 0
PassedFrom view test start key =
    (number : ℕ) × (stamped : Stamped) × (start ≤ number) × (number < view.noted) × (slice_get (history_in view) number ≡ Some stamped) × (test number ≡ true) × (stamped.1.write.key ≡ key)

module _ (view : TableView) (test : ℕ → Bool) where
  -- none is noted from there on
  pub passed_end : (key : List Value) → PassedFrom view test view.noted key → ⊥
  passed_end key from = absurd (omega (arith, from.2, from.3))

  -- what is one of the numbers passed the test
  listed : (numbers : List ℕ) → numbers ≡ passing test view.noted → (number : ℕ) → Contains numbers number → (number < view.noted) × (test number ≡ true)
  listed numbers all number inside = passing_has test view.noted number (subst (λ ns. Contains ns number) all inside)

  module _ (end last : ℕ) (rest : List ℕ) (left : rest ++ last ∷ [] ≡ passing test end) where
    top : IsTop test end last rest
    top = top_of test end last rest (sym left)

    pub passed_below : last < end
    passed_below = top.below

    pub passed_rest : rest ≡ passing test last
    passed_rest = top.rest_is

    -- one more write
    pub passed_back : (key : List Value) → PassedFrom view test last key → PassedFrom view test end key ⊎ IsKeyOf view last key
    passed_back key from = either (below_or last from.0) (below_or from.0 end)
      where
        either : (last < from.0) ⊎ (from.0 ≤ last) → (from.0 < end) ⊎ (end ≤ from.0) → PassedFrom view test end key ⊎ IsKeyOf view last key
        either w (inr past) = inl (from.0, from.1, past, from.3, from.4, from.5, from.6)
        either (inl up) (inl below) = absurd (no_both (test from.0) from.5 (top.none from.0 up below))
        either (inr down) (inl below) =
            let here = from.2 in
            let same : from.0 ≡ last = omega (arith, down, here) in
            inr (subst (λ found. IsSomeAnd found (λ stamped. stamped.1.write.key ≡ key)) (sym (ap (slice_get (history_in view)) (sym same) ∙ from.4)) from.6)

    -- where it is in no block above a height, those above it were walked
    pub passed_stop : (numbers : List ℕ) → numbers ≡ passing test view.noted → (height : ℕ) (entry : LogEntry) → InOrder (history_in view) → slice_get view.entries.now last ≡ Some entry → entry.block ≤ height → (key : List Value)
        → IsListedAbove view numbers height key → PassedFrom view test end key
    passed_stop numbers all height entry ordered there low key above = either (below_or last above.0) (below_or above.0 end)
      where
        on : (above.0 < view.noted) × (test above.0 ≡ true)
        on = listed numbers all above.0 above.2

        either : (last < above.0) ⊎ (above.0 ≤ last) → (above.0 < end) ⊎ (end ≤ above.0) → PassedFrom view test end key
        either w (inr past) = (above.0, above.1, past, on.0, above.3, on.1, above.5)
        either (inl up) (inl below) = absurd (no_both (test above.0) on.1 (top.none above.0 up below))
        either (inr down) w =
            let rise = blocks_rise (history_in view) above.0 last above.1 (stamped_of entry) ordered above.3 (get_history view.entries.now last entry there) down in
            let high = above.4 in
            absurd (omega (arith, rise, high, low))

  -- where none is left, all were walked
  pub passed_all : (numbers : List ℕ) → numbers ≡ passing test view.noted → (end height : ℕ) → passing test end ≡ [] → (key : List Value) → IsListedAbove view numbers height key → PassedFrom view test end key
  passed_all numbers all end height none key above = either (below_or above.0 end)
    where
      on : (above.0 < view.noted) × (test above.0 ≡ true)
      on = listed numbers all above.0 above.2

      either : (above.0 < end) ⊎ (end ≤ above.0) → PassedFrom view test end key
      either (inl below) = absurd (no_both (test above.0) on.1 (none_of test end none above.0 below))
      either (inr past) = (above.0, above.1, past, on.0, above.3, on.1, above.5)

-- ---- by the numbers of writes

-- the key is that of a write on the table between two numbers
abbrev pub OwnBetween : TableView → ℕ → ℕ → List Value → Type 0
OwnBetween view start end key = (number : ℕ) × (start ≤ number) × (number < end) × IsOwnKeyOf view number key

pub own_next : (view : TableView) (start end : ℕ) (key : List Value) → OwnBetween view start (end + 1) key → OwnBetween view start end key ⊎ IsOwnKeyOf view end key
own_next view start end key (number, up, below, own) = either (below_or number end)
  where
    either : (number < end) ⊎ (end ≤ number) → OwnBetween view start end key ⊎ IsOwnKeyOf view end key
    either (inl low) = inl (number, up, low, own)
    either (inr high) = let same : number ≡ end = omega (arith, below, high) in inr (subst (λ n. IsOwnKeyOf view n key) same own)

pub own_between : (view : TableView) (start end : ℕ) → length view.entries.now ≤ end → (key : List Value) → IsWrittenFrom view start key → OwnBetween view start end key
own_between view start end all key (number, stamped, up, there, in_table, own) =
    let below = below_got (history_in view) number stamped there in
    let same = length-map view.entries.now stamped_of in (
      number,
      up,
      omega (arith, all, below, same),
      subst (λ found. IsSomeAnd found (λ s. (s.1.write.table ≡ view.table) × (s.1.write.key ≡ key))) (sym there) (in_table, own),
    )
