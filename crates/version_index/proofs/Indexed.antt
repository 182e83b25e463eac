-- The index of a table while a write is noted.
use Rattle.std.proofs.Common.{◌≡◌, ◌∙◌, ◌<◌, ℕ, suc, List, All, Option, Some, None, Result, Ok, Err, OnErr, is_some, refl, ap, sym, subst, arith, slice_get, take, length}
use Rattle.std.specs.List.{AllZip}
use Rattle.std.specs.Option.{IfSome, IsSomeAnd, option_map}
use Rattle.std.proofs.lemmas.List.Elements.{All-weaker}
use Rattle.rel_base.specs.declared.value.Value.{Value}
use Rattle.rel_base.specs.Tables.{Stamped}
use Rattle.row_sets.specs.Log.{history_of, stamped_of}
use Rattle.row_sets.specs.declared.entry.LogEntry.{LogEntry}
use Rattle.version_index.specs.Chains.{AreChains, IsNoted, IsSame, lists_of, numbers_at, slot_of, slot_or}
use Rattle.version_index.specs.Columns.{IsColumn, IsNotedIn, IsSameColumn}
use Rattle.version_index.specs.Index.{IsIndex, IsIndexOf, row_by}
use Rattle.version_index.specs.Left.{left_at}
use Rattle.version_index.specs.declared.chains.Chains.{Chains}
use Rattle.version_index.specs.declared.chains.KeySlot.{KeySlot}
use Rattle.version_index.specs.declared.column.ColumnIndex.{ColumnIndex}
use Rattle.version_index.specs.declared.index.TableIndex.{TableIndex}
use Rattle.version_index.proofs.Logged.{get_history}
use Rattle.version_index.proofs.Noting.{chains_next, chains_stay}
use Rattle.version_index.proofs.Passing.{left_by_numbers}
use Rattle.version_index.proofs.Slots.{below_got}
use Rattle.version_index.proofs.Touching.{all_zip, column_next, column_stays, column_with}

-- what holds in any case holds where memory is wanting
pub in_any_case : {A E P : Type 0} (result : Result A E) → P → OnErr result P
in_any_case (Ok x) p = tt
in_any_case (Err e) p = p

-- where a key stands is at one of the slots
pub spot_within : (spot : Option KeySlot) (slot : Option ℕ) (count : ℕ) → option_map (λ (s : KeySlot). s.slot) spot ≡ slot → ((s : ℕ) → slot ≡ Some s → s < count) → IfSome spot (λ s. s.slot < count)
spot_within None slot count is within = tt
spot_within (Some spot) slot count is within = within spot.slot (sym is)

module _ (entries : List LogEntry) (number : ℕ) (entry : LogEntry) (there : slice_get entries number ≡ Some entry) where
  abbrev table : ℕ
  table = entry.placed.write.table

  abbrev history : List Stamped
  history = history_of entries

  abbrev key : List Value
  key = entry.placed.write.key

  -- the index of its table
  pub index_from : (noted : ℕ) (index : TableIndex) → IsIndexOf entries number noted index → IsIndex table history noted index
  index_from noted index is = subst (λ found. IsSomeAnd found (λ e. IsIndex e.placed.write.table history noted index)) there is

  pub index_of : (noted : ℕ) (index : TableIndex) → IsIndex table history noted index → IsIndexOf entries number noted index
  index_of noted index is = subst (λ found. IsSomeAnd found (λ e. IsIndex e.placed.write.table history noted index)) (sym there) is

  stamped_there : slice_get history number ≡ Some (stamped_of entry)
  stamped_there = get_history entries number entry there

  module _ (old : TableIndex) (is : IsIndex table history number old) where
    -- the row that the write finds
    pub finds : (numbers : List ℕ) (slot : Option ℕ) → slot ≡ slot_of old.chains key → numbers ≡ numbers_at (lists_of old.chains) slot → row_by history numbers ≡ left_at (table, key) (take number history)
    finds numbers slot own are =
        ap (row_by history) (are ∙ ap (numbers_at (lists_of old.chains)) own ∙ is.chains.numbers key)
        ∙ left_by_numbers (table, key) history number (let below = below_got history number (stamped_of entry) stamped_there in omega (arith, below))

    -- its slot
    pub own_place : (slot : Option ℕ) (count own : ℕ) → slot ≡ slot_of old.chains key → count ≡ length (lists_of old.chains) → own ≡ slot_or count slot → own ≡ slot_or (length (lists_of old.chains)) (slot_of old.chains key)
    own_place slot count own is_slot is_count is_own =
        is_own ∙ ap (λ n. slot_or n slot) is_count ∙ ap (slot_or (length (lists_of old.chains))) is_slot

    module _ (held : List ColumnIndex) (same : AllZip IsSameColumn old.columns.items held) where
      held_columns : All (IsColumn table history number old.chains) held
      held_columns = all_zip (IsColumn table history number old.chains) (IsColumn table history number old.chains) IsSameColumn (column_stays table history number old.chains) old.columns.items held is.columns same

      -- where memory is wanting, the index is as it was
      pub held_index : (chains : Chains) → IsSame old.chains chains → (index : TableIndex) → index.chains ≡ chains → index.columns.items ≡ held → IsIndex table history number index
      held_index chains kept index is_chains is_columns =
          record {
            chains = subst (AreChains table history number) (sym is_chains) (chains_stay table history number old.chains chains kept is.chains);
            columns =
                subst (λ cs. All (IsColumn table history number cs) index.columns.items) (sym is_chains) (subst (All (IsColumn table history number chains)) (sym is_columns)
                (all_weaker held held_columns));
          }
        where
          all_weaker : (columns : List ColumnIndex) → All (IsColumn table history number old.chains) columns → All (IsColumn table history number chains) columns
          all_weaker columns all = All-weaker (IsColumn table history number old.chains) (IsColumn table history number chains) (λ c. column_with table history number old.chains chains kept c) columns all

      module _ (found : Option (List Value)) (is_found : found ≡ left_at (table, key) (take number history)) (own : ℕ) (is_own : own ≡ slot_or (length (lists_of old.chains)) (slot_of old.chains key)) where
        -- the index with the write noted
        pub noted_index : (chains : Chains) → IsNoted key (is_some entry.placed.write.after) number old.chains chains → (noted : List ColumnIndex) → AllZip (IsNotedIn own found entry.placed.write number) held noted
            → (index : TableIndex) → index.chains ≡ chains → index.columns.items ≡ noted → IsIndex table history (suc number) index
        noted_index chains is_noted noted zipped index is_chains is_columns =
            record {
              chains = subst (AreChains table history (suc number)) (sym is_chains) (chains_next table history number (stamped_of entry) stamped_there refl old.chains chains is.chains is_noted);
              columns =
                  subst (λ cs. All (IsColumn table history (suc number) cs) index.columns.items) (sym is_chains) (subst (All (IsColumn table history (suc number) chains)) (sym is_columns)
                  (all_zip (IsColumn table history number old.chains) (IsColumn table history (suc number) chains) (IsNotedIn own found entry.placed.write number) step held noted held_columns zipped));
            }
          where
            step : (one two : ColumnIndex) → IsColumn table history number old.chains one → IsNotedIn own found entry.placed.write number one two → IsColumn table history (suc number) chains two
            step one two column more =
                column_next table history number (stamped_of entry) stamped_there refl old.chains chains is.chains is_noted one two column
                (subst (λ slot. IsNotedIn slot (left_at (table, key) (take number history)) entry.placed.write number one two) is_own (subst (λ row. IsNotedIn own row entry.placed.write number one two) is_found more))
