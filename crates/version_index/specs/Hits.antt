-- The first write that a read hits.
use Rattle.std.specs.Prelude.{◌≡◌, ◌<◌, ◌≤◌, ◌⊎◌, ℕ, List, Contains, Bool, false, true, Option, Some, None}
use Rattle.std.specs.BTreeMap.Range.{range_contains}
use Rattle.std.specs.declared.ops.Bound.{Bound}
use Rattle.std.specs.Option.{IfSome, IsSomeAnd, option_map}
use Rattle.rel_base.specs.Tables.{Stamped}
use Rattle.rel_base.specs.Value.{key_cmp}
use Rattle.rel_base.specs.declared.value.Value.{Value}
use Rattle.row_sets.specs.Versions.{Hit}
use Rattle.row_sets.specs.Watched.{is_watched}
use Rattle.row_sets.specs.declared.hits.Watch.{Watch}
use Rattle.version_index.specs.Chain.{IsFirst}
use Rattle.version_index.specs.Chains.{lists_of, numbers_at, slot_in}
use Rattle.version_index.specs.declared.chains.Chains.{Chains}
use Rattle.version_index.specs.declared.view.TableView.{TableView}
use Rattle.version_index.specs.Numbers.{passes_at}
use Rattle.version_index.specs.Rows.{write_of}
use Rattle.version_index.specs.View.{hit_told}

-- the number of the first item from a number on that passes a test
abbrev pub IsFirstFrom : {X : Type 0} → (X → Bool) → ℕ → List X → Option ℕ → Type 0
IsFirstFrom test start xs None = (number : ℕ) → start ≤ number → passes_at test xs number ≡ false
IsFirstFrom test start xs (Some first) = (start ≤ first) × (passes_at test xs first ≡ true) × ((number : ℕ) → start ≤ number → number < first → passes_at test xs number ≡ false)

-- a number that was found is not above another
abbrev pub IsUpTo : Option ℕ → ℕ → Type 0
IsUpTo found number = IsSomeAnd found (λ first. first ≤ number)

-- a number that may have been found gave way to a lesser one or stayed: it is a hit, where it was one before, and no hit that is wanted is
-- below it
pub record Lowers (hit : ℕ → Bool) (old new : Option ℕ) (Wanted : ℕ → Type 0) : Type 0 where
  pub right : IfSome old (λ number. hit number ≡ true) → IfSome new (λ number. hit number ≡ true)
  pub kept : (number : ℕ) → IsUpTo old number → IsUpTo new number
  pub reached : (number : ℕ) → Wanted number → hit number ≡ true → IsUpTo new number

-- a number is one of those of the writes on a key that stands in a map between two ends
abbrev pub IsNumberBetween : Chains → List (List Value × ℕ) → Bound (List Value) → Bound (List Value) → ℕ → Type 0
IsNumberBetween chains slots low high number =
    (key : List Value) × (slot : ℕ) × (slot_in slots key ≡ Some slot) × (range_contains key_cmp low high key ≡ true) × Contains (numbers_at (lists_of chains) (Some slot)) number

-- a number is one of the tail, or of a write on a key that lies between two ends
abbrev pub IsOnKeyBetween : TableView → Bound (List Value) → Bound (List Value) → ℕ → Type 0
IsOnKeyBetween view low high number =
    (view.noted ≤ number) ⊎ (IsNumberBetween view.index.now.chains view.index.now.chains.living.entries low high number ⊎ IsNumberBetween view.index.now.chains view.index.now.chains.ended.entries low high number)

-- what is reported of a hit is reported of the first write that the read hits, where there is one
abbrev pub TellsFirst : Watch → List Stamped → Option Hit → Type 0
TellsFirst watch history hit = (number : Option ℕ) × IsFirst (is_watched watch) history number × (hit ≡ option_map (hit_told watch.def.now watch.read.now) (write_of history number))
