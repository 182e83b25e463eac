-- Spans of the key of a table, where it is one column.
use Rattle.std.proofs.Common.{◌≡◌, ◌∙◌, ℕ, suc, zero, ◌<◌, ◌≤◌, ◌⊎◌, inl, inr, List, [], ◌∷◌, Bool, true, false, ◌||◌, ◌==◌, All, Contains, Option, Some, None, is_some, refl, ap, sym, subst, arith, length, map, slice_get}
use Rattle.std.specs.Option.{option_or}
use Rattle.std.specs.BTreeMap.Range.{range_contains}
use Rattle.std.proofs.lemmas.Bool.Decides.{Decides-eqb}
use Rattle.std.proofs.lemmas.List.{append-nil}
use Rattle.std.proofs.lemmas.List.Elements.{All-contains}
use Rattle.rel_base.specs.Access.{PartFits, ReadFits, WriteFits, covers_some, hits_write}
use Rattle.rel_base.specs.Row.{is_from, value_at}
use Rattle.rel_base.specs.Tables.{Stamped}
use Rattle.rel_base.specs.Value.{key_cmp, key_eq}
use Rattle.rel_base.specs.declared.access.Read.TheVariants.{Span}
use Rattle.rel_base.specs.declared.value.Value.{Value}
use Rattle.rel_base.proofs.Bits.{first_true, no_both, second_true}
use Rattle.row_sets.specs.Watched.{is_watched}
use Rattle.row_sets.specs.declared.hits.Watch.{Watch}
use Rattle.version_index.specs.Candidates.{IsBetween, IsWrittenFrom, StandsBetween, key_end_of}
use Rattle.version_index.specs.Chain.{is_on}
use Rattle.version_index.specs.Chains.{AreApart, list_or_none, lists_of, numbers_at, slot_in, slot_of}
use Rattle.version_index.specs.Hits.{IsOnKeyBetween}
use Rattle.version_index.specs.Numbers.{ArePassing, passes, passes_at, passing}
use Rattle.version_index.specs.Span.{HasKeyAt, IsChangedAbove, IsLostBetween}
use Rattle.version_index.specs.View.{IsAsked, IsView, history_in}
use Rattle.version_index.specs.declared.chains.Chains.{Chains}
use Rattle.version_index.specs.declared.view.TableView.{TableView}
use Rattle.version_index.proofs.Keys.{key_itself}
use Rattle.version_index.proofs.Logged.{contains_got, same_ref}
use Rattle.version_index.proofs.Noting.{on_own}
use Rattle.version_index.proofs.Passing.{passing_all}
use Rattle.version_index.proofs.Points.{below_or}
use Rattle.version_index.proofs.Ranges.{in_key_range}
use Rattle.version_index.proofs.Story.{Story, TookBack, seen_story}
use Rattle.version_index.proofs.Wanted.{lives_still, sole_key}
use Rattle.version_index.proofs.Watching.{asked_fits}

-- no number passes what none passes
passing_none : (end : ℕ) → passing (λ number. false) end ≡ []
passing_none zero = refl
passing_none (suc end) = append-nil (passing (λ number. false) end) ∙ passing_none end

-- after the lists there are no numbers
past_lists : (lists : List (List ℕ)) (slot : ℕ) → length lists ≤ slot → list_or_none (slice_get lists slot) ≡ []
past_lists [] slot past = refl
past_lists (numbers ∷ lists) zero past = absurd (omega (arith, past))
past_lists (numbers ∷ lists) (suc slot) past = past_lists lists slot (omega (arith, past))

-- ---- the slots of the two maps

pub living_own : (chains : Chains) (key : List Value) (slot : ℕ) → slot_in chains.living.entries key ≡ Some slot → slot_of chains key ≡ Some slot
living_own chains key slot is = ap (λ found. option_or found (slot_in chains.ended.entries key)) is

pub ended_own : (chains : Chains) → AreApart chains.living.entries chains.ended.entries → (key : List Value) (slot : ℕ) → slot_in chains.ended.entries key ≡ Some slot → slot_of chains key ≡ Some slot
ended_own chains apart key slot is = go (slot_in chains.living.entries key) refl
  where
    go : (found : Option ℕ) → slot_in chains.living.entries key ≡ found → option_or found (slot_in chains.ended.entries key) ≡ Some slot
    go None none = is
    go (Some other) some = absurd (no_both (is_some (slot_in chains.ended.entries key)) (ap is_some is) (ap is_some (apart key (ap is_some some))))

module _ (view : TableView) (is : IsView view) where
  abbrev chains : Chains
  chains = view.index.now.chains

  abbrev history : List Stamped
  history = history_in view

  -- the numbers of a slot are those of the noted writes on a key
  pub slot_passes : (slot : ℕ) → ArePassing view.noted (numbers_at (lists_of chains) (Some slot))
  slot_passes slot = go (below_or slot (length (lists_of chains)))
    where
      go : (slot < length (lists_of chains)) ⊎ (length (lists_of chains) ≤ slot) → ArePassing view.noted (numbers_at (lists_of chains) (Some slot))
      go (inl below) =
          let keyed = is.index.chains.keyed slot below in
          (passes_at (is_on (view.table, keyed.0)) history, ap (numbers_at (lists_of chains)) (sym keyed.1) ∙ is.index.chains.numbers keyed.0)
      go (inr past) = ((λ number. false), past_lists (lists_of chains) slot past ∙ sym (passing_none view.noted))

  -- the number of a noted write on a key is one of its slot, in one of the maps
  module _ (key : List Value) (number : ℕ) where
    abbrev pub HasIt : List (List Value × ℕ) → Type 0
    HasIt slots = (slot : ℕ) × (slot_in slots key ≡ Some slot) × Contains (numbers_at (lists_of chains) (Some slot)) number

    pub noted_slot : number < view.noted → passes_at (is_on (view.table, key)) history number ≡ true → HasIt chains.living.entries ⊎ HasIt chains.ended.entries
    noted_slot below on =
        go (slot_in chains.living.entries key) (slot_in chains.ended.entries key) refl refl
        (subst (λ numbers. Contains numbers number) (sym (is.index.chains.numbers key)) (passing_all (passes_at (is_on (view.table, key)) history) view.noted number below on))
      where
        go : (living ended : Option ℕ) → slot_in chains.living.entries key ≡ living → slot_in chains.ended.entries key ≡ ended → Contains (numbers_at (lists_of chains) (option_or living ended)) number
            → HasIt chains.living.entries ⊎ HasIt chains.ended.entries
        go (Some slot) ended lives gone inside = inl (slot, lives, inside)
        go None (Some slot) lives gone inside = inr (slot, gone, inside)
        go None None lives gone inside = let none = inside.1 in absurd (omega (arith, none))

  -- ---- reads

  -- a key that a span wants is there still, or it was lost since
  pub key_found : (height : ℕ) (low high : Option Value) (key : List Value) → HasKeyAt view low high height key
      → StandsBetween chains.living.entries (key_end_of low) (key_end_of high) key ⊎ IsLostBetween view (key_end_of low) (key_end_of high) height key
  key_found height low high key wanted = go (seen_story view is height key wanted.seen wanted.is)
    where
      inside : (slots : List (List Value × ℕ)) → is_some (slot_in slots key) ≡ true → StandsBetween slots (key_end_of low) (key_end_of high) key
      inside slots there = (ap (range_contains key_cmp (key_end_of low) (key_end_of high)) wanted.own ∙ in_key_range low high wanted.value wanted.between, there)

      changed : TookBack (view.table, key) height history wanted.seen.row view.noted → IsChangedAbove view height key
      changed took = let own_ref = same_ref (view.table, key) took.stamped took.on in (took.at, took.stamped, took.there, ap (λ r. r.0) own_ref, ap (λ r. r.1) own_ref, inl took.above)

      either : (took : TookBack (view.table, key) height history wanted.seen.row view.noted) → HasIt key took.at chains.living.entries ⊎ HasIt key took.at chains.ended.entries
          → StandsBetween chains.living.entries (key_end_of low) (key_end_of high) key ⊎ IsLostBetween view (key_end_of low) (key_end_of high) height key
      either took (inl has_it) = inl (inside chains.living.entries (ap is_some has_it.1))
      either took (inr has_it) = inr (changed took, inl (inside chains.ended.entries (ap is_some has_it.1)))

      go : Story (view.table, key) height history wanted.seen.row view.noted ⊎ IsWrittenFrom view view.noted key
          → StandsBetween chains.living.entries (key_end_of low) (key_end_of high) key ⊎ IsLostBetween view (key_end_of low) (key_end_of high) height key
      go (inl (inl left)) = inl (inside chains.living.entries (lives_still view is height key wanted.seen.row left))
      go (inl (inr took)) = either took (noted_slot key took.at took.before (ap (passes (is_on (view.table, key))) took.there ∙ took.on))
      go (inr written) = inr ((written.0, written.1, written.3, written.4, written.5, inr written.2), inr written)

  -- ---- late checks

  module _ (watch : Watch) (column : ℕ) (low high : Option Value) (asked : IsAsked watch.def.now watch.read.now view) (span : watch.read.now ≡ Span view.table column low high)
      (none : All (λ own. own.column ≡ column → ⊥) view.index.now.columns.items) where
    sole : watch.def.now.key ≡ column ∷ []
    sole = let fits = subst (ReadFits watch.def.now) span asked.fits in sole_key watch.def.now view column low high fits.0 asked.columns none

    -- a row that it covers has a key between the ends
    covers_key : (key : List Value) (row : Option (List Value)) → PartFits watch.def.now key row → covers_some watch.def.now (Span view.table column low high) row ≡ true
        → (value : Value) × IsBetween low high value × (key ≡ value ∷ [])
    covers_key key None fits covers = cc
    covers_key key (Some row) fits covers =
        let value = value_at row column in
        (value, (first_true _ _ covers, second_true (is_from low value) _ covers), sym fits.1 ∙ ap (map (value_at row)) sole)

    -- a write that it hits is on a key between the ends
    hit_key : (stamped : Stamped) → (stamped.1.write.table ≡ view.table → WriteFits watch.def.now stamped.1.write) → hits_write watch.def.now (Span view.table column low high) stamped.1.write ≡ true
        → (value : Value) × IsBetween low high value × (is_on (view.table, value ∷ []) stamped ≡ true)
    hit_key stamped fits hits = on (either (covers_some watch.def.now (Span view.table column low high) stamped.1.write.before) refl (second_true (view.table == stamped.1.write.table) _ hits))
      where
        in_table : view.table ≡ stamped.1.write.table
        in_table = (Decides-eqb view.table stamped.1.write.table).0 (first_true (view.table == stamped.1.write.table) _ hits)

        fit : WriteFits watch.def.now stamped.1.write
        fit = fits (sym in_table)

        either : (b : Bool) → covers_some watch.def.now (Span view.table column low high) stamped.1.write.before ≡ b → (b || covers_some watch.def.now (Span view.table column low high) stamped.1.write.after) ≡ true
            → (value : Value) × IsBetween low high value × (stamped.1.write.key ≡ value ∷ [])
        either true covers w = covers_key stamped.1.write.key stamped.1.write.before fit.before covers
        either false w covers = covers_key stamped.1.write.key stamped.1.write.after fit.after covers

        on : (value : Value) × IsBetween low high value × (stamped.1.write.key ≡ value ∷ []) → (value : Value) × IsBetween low high value × (is_on (view.table, value ∷ []) stamped ≡ true)
        on (value, between, same) = (value, between, on_own view.table stamped (value ∷ []) in_table ∙ ap (key_eq (value ∷ [])) same ∙ key_itself (value ∷ []))

    watched_key : (j : ℕ) → passes_at (is_watched watch) history j ≡ true → (value : Value) × IsBetween low high value × (passes_at (is_on (view.table, value ∷ [])) history j ≡ true)
    watched_key j passing_it = go (slice_get history j) refl passing_it
      where
        go : (found : Option Stamped) → slice_get history j ≡ found → passes (is_watched watch) found ≡ true → (value : Value) × IsBetween low high value × (passes (is_on (view.table, value ∷ [])) found ≡ true)
        go None absent is = cc
        go (Some stamped) there is =
            hit_key stamped (All-contains (λ s. s.1.write.table ≡ view.table → WriteFits watch.def.now s.1.write) history stamped (asked_fits watch.def.now watch.read.now view asked) (contains_got history j stamped there))
            (ap (λ read. hits_write watch.def.now read stamped.1.write) (sym span) ∙ first_true (hits_write watch.def.now watch.read.now stamped.1.write) _ is)

    pub watched_on_key : (j : ℕ) → passes_at (is_watched watch) history j ≡ true → IsOnKeyBetween view (key_end_of low) (key_end_of high) j
    watched_on_key j passing_it = go (below_or j view.noted) (watched_key j passing_it)
      where
        either : (value : Value) → IsBetween low high value → HasIt (value ∷ []) j chains.living.entries ⊎ HasIt (value ∷ []) j chains.ended.entries → IsOnKeyBetween view (key_end_of low) (key_end_of high) j
        either value between (inl has_it) = inr (inl (value ∷ [], has_it.0, has_it.1, in_key_range low high value between, has_it.2))
        either value between (inr has_it) = inr (inr (value ∷ [], has_it.0, has_it.1, in_key_range low high value between, has_it.2))

        go : (j < view.noted) ⊎ (view.noted ≤ j) → (value : Value) × IsBetween low high value × (passes_at (is_on (view.table, value ∷ [])) history j ≡ true) → IsOnKeyBetween view (key_end_of low) (key_end_of high) j
        go (inr past) w = inl past
        go (inl below) (value, between, on) = either value between (noted_slot (value ∷ []) j below on)
