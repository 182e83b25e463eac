-- The indexes of all tables while a write of one of them is noted.
use Rattle.std.proofs.Common.{◌≡◌, ◌∙◌, ℕ, suc, ◌==◌, List, Bool, true, false, Some, refl, ap, sym, subst, slice_get, slice_set, ◌<◌, arith, length}
use Rattle.std.proofs.lemmas.Bool.Decides.{Decides-eqb}
use Rattle.std.proofs.lemmas.List.{length-set}
use Rattle.std.proofs.lemmas.List.Elements.{All-weaker}
use Rattle.rel_base.specs.Tables.{Stamped}
use Rattle.rel_base.proofs.Bits.{no_both}
use Rattle.row_sets.proofs.Histories.{unwrapped}
use Rattle.row_sets.specs.Log.{history_of, stamped_of}
use Rattle.row_sets.specs.declared.entry.LogEntry.{LogEntry}
use Rattle.version_index.specs.Columns.{IsColumn}
use Rattle.version_index.specs.Index.{AreNoted, IsIndex}
use Rattle.version_index.specs.declared.index.TableIndex.{TableIndex}
use Rattle.version_index.proofs.Logged.{get_history}
use Rattle.version_index.proofs.Noting.{chains_skip}
use Rattle.version_index.proofs.Slots.{below_got, set_other, set_same}
use Rattle.version_index.proofs.Touching.{column_skip}

-- the index of another table need not note a write
index_skip : (table : ℕ) (history : List Stamped) (number : ℕ) (stamped : Stamped) → slice_get history number ≡ Some stamped → (table ≡ stamped.1.write.table → ⊥) → (index : TableIndex)
    → IsIndex table history number index → IsIndex table history (suc number) index
index_skip table history number stamped there other index is =
    record {
      chains = chains_skip table history number stamped there other index.chains is.chains;
      columns =
          All-weaker (IsColumn table history number index.chains) (IsColumn table history (suc number) index.chains) (λ column. column_skip table history number stamped there other index.chains column) index.columns.items is.columns;
    }

module _ (entries : List LogEntry) (number : ℕ) (entry : LogEntry) (indexes : List TableIndex) (new : TableIndex) where
  -- an index after the one of the table was set
  set_cases : (P : ℕ → TableIndex → Type 0) → P entry.placed.write.table new → ((t : ℕ) (index : TableIndex) → (t ≡ entry.placed.write.table → ⊥) → slice_get indexes t ≡ Some index → P t index)
      → (t : ℕ) (index : TableIndex) → slice_get (slice_set indexes entry.placed.write.table new) t ≡ Some index → P t index
  set_cases P here others t index there = go (t == entry.placed.write.table) refl
    where
      go : (b : Bool) → (t == entry.placed.write.table) ≡ b → P t index
      go true same =
          let one : t ≡ entry.placed.write.table = (Decides-eqb t entry.placed.write.table).0 same in
          let at_own : slice_get (slice_set indexes entry.placed.write.table new) entry.placed.write.table ≡ Some index = ap (slice_get (slice_set indexes entry.placed.write.table new)) (sym one) ∙ there in
          let is : new ≡ index = unwrapped new index (sym (set_same indexes entry.placed.write.table new (within at_own)) ∙ at_own) in
          subst (λ n. P n index) (sym one) (subst (P entry.placed.write.table) is here)
        where
          within : slice_get (slice_set indexes entry.placed.write.table new) entry.placed.write.table ≡ Some index → entry.placed.write.table < length indexes
          within at_own =
              let below = below_got (slice_set indexes entry.placed.write.table new) entry.placed.write.table index at_own in
              let same = length-set indexes entry.placed.write.table new in
              omega (arith, below, same)
      go false differ =
          let other : t ≡ entry.placed.write.table → ⊥ = λ one. no_both (t == entry.placed.write.table) ((Decides-eqb t entry.placed.write.table).1 one) differ in
          others t index other (sym (set_other indexes entry.placed.write.table t new other) ∙ there)

  pub same_in : AreNoted indexes (history_of entries) number → IsIndex entry.placed.write.table (history_of entries) number new → AreNoted (slice_set indexes entry.placed.write.table new) (history_of entries) number
  same_in old is = set_cases (λ t index. IsIndex t (history_of entries) number index) is (λ t index other there. old t index there)

  pub noted_in : slice_get entries number ≡ Some entry → AreNoted indexes (history_of entries) number → IsIndex entry.placed.write.table (history_of entries) (suc number) new
      → AreNoted (slice_set indexes entry.placed.write.table new) (history_of entries) (suc number)
  noted_in there old is =
      set_cases (λ t index. IsIndex t (history_of entries) (suc number) index) is (λ t index other here. index_skip t (history_of entries) number (stamped_of entry) (get_history entries number entry there) other index (old t index here))
