-- The writes on each key of a table.
use Rattle.std.specs.Option.{option_or}
use Rattle.std.specs.Prelude.{◌≡◌, ◌<◌, ◌≤◌, IsSomeAnd, ℕ, List, [], ◌∷◌, ◌++◌, Bool, true, Option, Some, None, cond, is_some, length, map, slice_get, slice_set, take}
use Rattle.std.specs.BTreeMap.{is_at}
use Rattle.std.specs.Map.{lookup}
use Rattle.std.specs.Vec.{vec_capacity, vec_len}
use Rattle.std.specs.declared.alloc.Global.{Global}
use Rattle.std.specs.declared.vec.Vec.{Vec}
use Rattle.rel_base.specs.Tables.{Stamped}
use Rattle.rel_base.specs.Value.{key_cmp, key_eq}
use Rattle.rel_base.specs.declared.value.Value.{Value}
use Rattle.row_sets.specs.Log.{history_of}
use Rattle.row_sets.specs.declared.entry.LogEntry.{LogEntry}
use Rattle.version_index.specs.Chain.{is_on}
use Rattle.version_index.specs.Hashing.{key_hash, may_be_in}
use Rattle.version_index.specs.Left.{left_at}
use Rattle.version_index.specs.Numbers.{last_in, passes_at, passing}
use Rattle.version_index.specs.declared.chains.Chains.{Chains}

-- the slot of a key in one of the maps
abbrev pub slot_in : List (List Value × ℕ) → List Value → Option ℕ
slot_in slots key = lookup (is_at (key_cmp key)) slots

-- the slot of a key: that among the keys with a row, or else that among the keys whose row was deleted
abbrev pub slot_by : List (List Value × ℕ) → List (List Value × ℕ) → List Value → Option ℕ
slot_by living ended key = option_or (slot_in living key) (slot_in ended key)

abbrev pub slot_of : Chains → List Value → Option ℕ
slot_of chains key = slot_by chains.living.entries chains.ended.entries key

-- no key is both among those with a row and among those whose row was deleted
abbrev pub AreApart : List (List Value × ℕ) → List (List Value × ℕ) → Type 0
AreApart living ended = (key : List Value) → is_some (slot_in living key) ≡ true → slot_in ended key ≡ None

-- one key is placed at a slot, among those with a row or not, and the others stay
pub record IsPlaced (key : List Value) (slot : ℕ) (lives : Bool) (living ended living_now ended_now : List (List Value × ℕ)) : Type 0 where
  pub slots : (k : List Value) → slot_by living_now ended_now k ≡ cond (key_eq k key) (Some slot) (slot_by living ended k)
  pub lives_now : (k : List Value) → is_some (slot_in living_now k) ≡ cond (key_eq k key) lives (is_some (slot_in living k))
  pub apart : AreApart living ended → AreApart living_now ended_now

-- whether a key is among those with a row
abbrev pub lives_in : Chains → List Value → Bool
lives_in chains key = is_some (slot_in chains.living.entries key)

-- the keys of two maps are all among those that were put in, by their hashes
abbrev pub AreIn : List (List Value × ℕ) → List (List Value × ℕ) → List ℕ → Type 0
AreIn living ended marks = (key : List Value) → is_some (slot_by living ended key) ≡ true → may_be_in marks (key_hash key) ≡ true

-- all keys with a slot are
abbrev pub AreAllIn : Chains → Type 0
AreAllIn chains = AreIn chains.living.entries chains.ended.entries chains.guesses.marks.items

-- the lists of numbers, by slot
abbrev pub lists_in : List (Vec ℕ Global) → List (List ℕ)
lists_in lists = map (λ numbers. numbers.items) lists

abbrev pub lists_of : Chains → List (List ℕ)
lists_of chains = lists_in chains.numbers.items

-- numbers are the last ones of lists, each of which has one
abbrev pub AreLasts : List ℕ → List (List ℕ) → Type 0
AreLasts lasts lists = map Some lasts ≡ map last_in lists

-- the list of a slot has room for one more number
abbrev pub HasRoomForNumber : List (Vec ℕ Global) → ℕ → Type 0
HasRoomForNumber lists slot = IsSomeAnd (slice_get lists slot) (λ numbers. vec_len numbers < vec_capacity numbers)

-- a list that may be there, and no numbers where it is not
abbrev pub list_or_none : Option (List ℕ) → List ℕ
list_or_none None = []
list_or_none (Some numbers) = numbers

-- the numbers of a slot that may be there
abbrev pub numbers_at : List (List ℕ) → Option ℕ → List ℕ
numbers_at lists None = []
numbers_at lists (Some slot) = list_or_none (slice_get lists slot)

-- the numbers of the writes on a key
abbrev pub numbers_of : Chains → List Value → List ℕ
numbers_of chains key = numbers_at (lists_of chains) (slot_of chains key)

-- the maps and the lists of a table tell the writes on its keys among the first of a history, as many as are noted: for each key the
-- numbers of the writes on it, and whether they left it a row. Each slot is of one key, and each key with a slot was put in
pub record AreChains (table : ℕ) (history : List Stamped) (noted : ℕ) (chains : Chains) : Type 0 where
  pub numbers : (key : List Value) → numbers_of chains key ≡ passing (passes_at (is_on (table, key)) history) noted
  pub lives : (key : List Value) → lives_in chains key ≡ is_some (left_at (table, key) (take noted history))
  pub apart : AreApart chains.living.entries chains.ended.entries
  pub within : (key : List Value) (slot : ℕ) → slot_of chains key ≡ Some slot → slot < length (lists_of chains)
  pub own : (one other : List Value) (slot : ℕ) → slot_of chains one ≡ Some slot → slot_of chains other ≡ Some slot → one ≡ other
  pub keyed : (slot : ℕ) → slot < length (lists_of chains) → (key : List Value) × (slot_of chains key ≡ Some slot)
  pub all_in : AreAllIn chains
  pub lasts : AreLasts chains.lasts.items (lists_of chains)

-- they tell those of some table among the first of a log
abbrev pub AreChainsOf : List LogEntry → Chains → Type 0
AreChainsOf entries chains = (table : ℕ) × (noted : ℕ) × (noted ≤ length entries) × AreChains table (history_of entries) noted chains

-- nothing that they tell has changed
pub record IsSame (old new : Chains) : Type 0 where
  pub living : new.living.entries ≡ old.living.entries
  pub ended : new.ended.entries ≡ old.ended.entries
  pub lists : lists_of new ≡ lists_of old
  pub lasts : new.lasts.items ≡ old.lasts.items
  pub all_in : AreAllIn old → AreAllIn new

-- a slot that may be there, and else the next one
abbrev pub slot_or : ℕ → Option ℕ → ℕ
slot_or next None = next
slot_or next (Some slot) = slot

-- the lists with one more number at a slot, or with a list of its own for it
abbrev pub with_number : ℕ → Option ℕ → List (List ℕ) → List (List ℕ)
with_number number None lists = lists ++ (number ∷ []) ∷ []
with_number number (Some slot) lists = slice_set lists slot (numbers_at lists (Some slot) ++ number ∷ [])

-- what becomes of them by one more write on a key
pub record IsNoted (key : List Value) (lives : Bool) (number : ℕ) (old new : Chains) : Type 0 where
  pub slots : (k : List Value) → slot_of new k ≡ cond (key_eq k key) (Some (slot_or (length (lists_of old)) (slot_of old key))) (slot_of old k)
  pub lives_now : (k : List Value) → lives_in new k ≡ cond (key_eq k key) lives (lives_in old k)
  pub apart : AreApart new.living.entries new.ended.entries
  pub lists : lists_of new ≡ with_number number (slot_of old key) (lists_of old)
  pub lasts : AreLasts old.lasts.items (lists_of old) → AreLasts new.lasts.items (lists_of new)
  pub all_in : AreAllIn old → AreAllIn new
