-- Where a key stands by a guess at its slot.
use Rattle.std.proofs.Common.{◌≡◌, ◌∙◌, ◌<◌, ℕ, List, [], ◌∷◌, ◌++◌, true, Bool, Option, Some, None, ap, arith, is_some, length, slice_get, subst, sym}
use Rattle.std.specs.Option.{IfSome, IsSomeAnd}
use Rattle.std.proofs.lemmas.List.{length-map}
use Rattle.rel_base.specs.Value.{key_eq}
use Rattle.rel_base.specs.declared.value.Value.{Value}
use Rattle.row_sets.specs.Log.{history_of, stamped_of}
use Rattle.row_sets.specs.declared.entry.LogEntry.{LogEntry}
use Rattle.version_index.specs.Chains.{AreChainsOf, lists_of, lives_in, numbers_at, slot_of}
use Rattle.version_index.specs.declared.chains.Chains.{Chains}
use Rattle.version_index.specs.declared.chains.KeySlot.{KeySlot}
use Rattle.version_index.proofs.Keys.{same_key}
use Rattle.version_index.proofs.Logged.{get_history}
use Rattle.version_index.proofs.Offered.{slot_last, slot_lives, slot_own}

-- a key that is one with another stands where the other does
pub spot_own : (chains : Chains) (key other : List Value) (slot : ℕ) (spot : Option KeySlot) → slot_of chains other ≡ Some slot → IfSome spot (λ s. s.slot ≡ slot) → IfSome spot (λ s. key_eq key other ≡ true)
    → IfSome spot (λ s. slot_of chains key ≡ Some s.slot)
spot_own chains key other slot None own at tied = tt
spot_own chains key other slot (Some spot) own at tied = ap (slot_of chains) (same_key key other tied) ∙ own ∙ ap Some (sym at)

-- and has a row where the other has one
pub spot_lives : (chains : Chains) (key other : List Value) (lives : Bool) (spot : Option KeySlot) → lives_in chains other ≡ lives → IfSome spot (λ s. s.lives ≡ lives) → IfSome spot (λ s. key_eq key other ≡ true)
    → IfSome spot (λ s. s.lives ≡ lives_in chains key)
spot_lives chains key other lives None own at tied = tt
spot_lives chains key other lives (Some spot) own at tied = at ∙ sym own ∙ ap (lives_in chains) (sym (same_key key other tied))

module _ (entries : List LogEntry) (chains : Chains) (are : AreChainsOf entries chains) (slot last : ℕ) (rest : List ℕ) (there : numbers_at (lists_of chains) (Some slot) ≡ rest ++ last ∷ []) where
  -- the last write of a slot is in the log
  pub last_within : last < length entries
  last_within =
      let low = (slot_last are.0 are.1 (history_of entries) chains are.3 slot last rest there).below in
      let within = are.2 in
      omega (arith, low, within)

  module _ (entry : LogEntry) (is : slice_get entries last ≡ Some entry) where
    -- its key has the slot
    pub entry_own : slot_of chains entry.placed.write.key ≡ Some slot
    entry_own =
        sym (subst (λ found. IsSomeAnd found (λ s. Some slot ≡ slot_of chains s.1.write.key)) (get_history entries last entry is) (slot_own are.0 are.1 (history_of entries) chains are.3 slot last rest there))

    -- and has a row where the write left one
    pub entry_lives : lives_in chains entry.placed.write.key ≡ is_some entry.placed.write.after
    entry_lives =
        slot_lives are.0 are.1 (history_of entries) chains are.3 (let within = are.2 in let same = length-map entries stamped_of in omega (arith, within, same)) slot last rest there (stamped_of entry)
        (get_history entries last entry is) entry_own
