-- A span finds each key that it wants.
use Rattle.std.proofs.Common.{◌≡◌, ◌∙◌, ℕ, suc, zero, ◌<◌, ◌⊎◌, inl, inr, List, [], ◌∷◌, ◌++◌, Bool, true, false, ◌&&◌, ◌||◌, ◌==◌, All, Contains, cond, Option, Some, None, is_some, refl, ap, sym, subst, arith, length, map, slice_get, take}
use Rattle.std.specs.Option.{option_or}
use Rattle.std.specs.Cmp.{tied_itself}
use Rattle.std.specs.Ordering.{is_eq, is_le, ordering_reverse}
use Rattle.std.specs.declared.cmp.Ordering.{Ordering}
use Rattle.std.specs.declared.cmp.Ordering.TheVariants.{Less, Equal, Greater}
use Rattle.std.specs.FinMap.{entries, get, get-entries}
use Rattle.std.proofs.lemmas.Bool.Decides.{Decides-eqb}
use Rattle.std.proofs.lemmas.List.Elements.{All-head, All-tail, Contains-append_cases, Contains-append_left, Contains-append_right}
use Rattle.rel_base.specs.Row.{is_from, is_up_to, value_at}
use Rattle.rel_base.specs.Schema.{RowFits, key_of_row, span_columns}
use Rattle.rel_base.specs.Tables.{Stamped, is_read, ref_cmp, ref_cmp-exact, tables_at, write_ref}
use Rattle.rel_base.specs.Value.{value_cmp, value_cmp-total, value_eq}
use Rattle.rel_base.specs.declared.access.Read.{Read}
use Rattle.rel_base.specs.declared.access.Read.TheVariants.{Span}
use Rattle.rel_base.specs.declared.access.Seen.{Seen}
use Rattle.rel_base.specs.declared.schema.TableDef.{TableDef}
use Rattle.rel_base.specs.declared.value.Value.{Value}
use Rattle.rel_base.proofs.Bits.{both_true, first_true, no_both, second_true}
use Rattle.rel_base.proofs.Columns.{span_column_below}
use Rattle.rel_base.proofs.KeyOrder.{Stands, all_stand}
use Rattle.row_sets.proofs.Histories.{unwrapped}
use Rattle.version_index.specs.Candidates.{IsBetween, IsAtBetween, IsTouchedAbove, IsWrittenFrom, only_value}
use Rattle.version_index.specs.Chains.{lives_in, slot_in, slot_of}
use Rattle.version_index.specs.Columns.{IsColumn, cell, has, touches, touches_at}
use Rattle.version_index.specs.Index.{HasColumns, index_columns}
use Rattle.version_index.specs.Left.{left_at}
use Rattle.version_index.specs.Span.{HasCellAt, IsChangedAbove, IsChangedBetween, IsWantedBy}
use Rattle.version_index.specs.View.{IsAsked, IsView, history_in}
use Rattle.version_index.specs.declared.chains.Chains.{Chains}
use Rattle.version_index.specs.declared.column.ColumnIndex.{ColumnIndex}
use Rattle.version_index.specs.declared.view.TableView.{TableView}
use Rattle.version_index.proofs.KeyRows.{All-found}
use Rattle.version_index.proofs.Logged.{same_ref}
use Rattle.version_index.proofs.AtValues.{same_value}
use Rattle.version_index.proofs.Story.{Story, TookBack, seen_story}

-- a value is one with itself
pub value_itself : (value : Value) → value_eq value value ≡ true
value_itself value = ap is_eq (tied_itself value_cmp-total value)

-- ---- a span of one value

-- a value that stands after no other and before no other is that other
pub pinned : (a b : Value) → is_le (value_cmp a b) ≡ true → is_le (value_cmp b a) ≡ true → value_eq a b ≡ true
pinned a b one other = go (value_cmp a b) refl one
  where
    go : (o : Ordering) → value_cmp a b ≡ o → is_le o ≡ true → is_eq o ≡ true
    go Less is down = absurd (no_both (is_le (value_cmp b a)) other (ap is_le (value_cmp-total.antisymm b a ∙ ap ordering_reverse is)))
    go Equal is down = refl
    go Greater is down = cc

-- what lies between ends of one value is that value
pub between_one : (low high : Option Value) (one value : Value) → only_value low high ≡ Some one → IsBetween low high value → value_eq one value ≡ true
between_one None high one value is between = cc
between_one (Some low) None one value is between = cc
between_one (Some low) (Some high) one value is between = go (value_eq low high) refl is
  where
    go : (b : Bool) → value_eq low high ≡ b → cond b (Some low) None ≡ Some one → value_eq one value ≡ true
    go false apart is = cc
    go true tied is = subst (λ v. value_eq v value ≡ true) (unwrapped low one is) (pinned low value between.0 (subst (λ v. is_le (value_cmp value v) ≡ true) (sym (same_value low high tied)) between.1))

-- a span that has one value has it at both ends
pub ends_of : (low high : Option Value) (one : Value) → Some one ≡ only_value low high → (low ≡ Some one) × (high ≡ Some one)
ends_of None high one is = cc
ends_of (Some low) None one is = cc
ends_of (Some low) (Some high) one is = go (value_eq low high) refl (sym is)
  where
    go : (b : Bool) → value_eq low high ≡ b → cond b (Some low) None ≡ Some one → (Some low ≡ Some one) × (Some high ≡ Some one)
    go false apart is = cc
    go true tied is = (is, ap Some (sym (same_value low high tied)) ∙ is)

module _ (view : TableView) (is : IsView view) (height : ℕ) where
  abbrev chains : Chains
  chains = view.index.now.chains

  abbrev history : List Stamped
  history = history_in view

  -- a key with a row has a slot
  has_a_slot : (key : List Value) → lives_in chains key ≡ true → (slot : ℕ) × (slot_of chains key ≡ Some slot)
  has_a_slot key lives = go (slot_in chains.living.entries key) lives
    where
      go : (found : Option ℕ) → is_some found ≡ true → (slot : ℕ) × (option_or found (slot_in chains.ended.entries key) ≡ Some slot)
      go None none = cc
      go (Some slot) some = (slot, refl)

  -- a key whose row is there still lives
  pub lives_still : (key row : List Value) → left_at (view.table, key) (take view.noted history) ≡ Some row → lives_in chains key ≡ true
  lives_still key row left = is.index.chains.lives key ∙ ap is_some left

  -- ---- by the index of a column

  module _ (column : ColumnIndex) (own : IsColumn view.table (history_in view) view.noted view.index.now.chains column) (low high : Option Value) (key : List Value) where
    marked_still : (row : List Value) (value : Value) → cell column.column (Some row) ≡ Some value → IsBetween low high value → left_at (view.table, key) (take view.noted history) ≡ Some row
        → IsAtBetween view column.living.entries low high key
    marked_still row value here between left =
        let lives = lives_still key row left in
        let slot = has_a_slot key lives in (
          slot.0,
          value,
          (ap is_some left, slot.1),
          between,
          own.living key slot.0 value slot.1 (ap (λ r. has value (cell column.column r)) left ∙ ap (has value) here ∙ value_itself value),
        )

    touched_back : (row : List Value) (value : Value) → cell column.column (Some row) ≡ Some value → TookBack (view.table, key) height history row view.noted → IsTouchedAbove view column.column value height key
    touched_back row value here took = (
      took.at,
      took.stamped,
      took.before,
      took.there,
      took.above,
      hits,
      ap (λ r. r.1) ref_is,
    )
      where
        ref_is : write_ref took.stamped.1.write ≡ (view.table, key)
        ref_is = same_ref (view.table, key) took.stamped took.on

        hits : touches_at view.table column.column value history took.at ≡ true
        hits =
            ap (touches view.table column.column value (take took.at history)) took.there
            ∙ both_true (view.table == took.stamped.1.write.table) _ ((Decides-eqb view.table took.stamped.1.write.table).1 (sym (ap (λ r. r.0) ref_is)))
            (ap (λ b. b || has value (cell column.column took.stamped.1.write.before) || has value (cell column.column took.stamped.1.write.after))
            (ap (λ r. has value (cell column.column (left_at r (take took.at history)))) ref_is ∙ ap (λ r. has value (cell column.column r)) took.found ∙ ap (has value) here ∙ value_itself value))

    pub cell_found : HasCellAt view column.column low high height key → IsAtBetween view column.living.entries low high key ⊎ IsChangedBetween view column.column low high height key
    cell_found wanted = go (seen_story view is height key wanted.seen wanted.is)
      where
        go : Story (view.table, key) height history wanted.seen.row view.noted ⊎ IsWrittenFrom view view.noted key
            → IsAtBetween view column.living.entries low high key ⊎ IsChangedBetween view column.column low high height key
        go (inl (inl left)) = inl (marked_still wanted.seen.row wanted.value wanted.has wanted.between left)
        go (inl (inr took)) = inr (wanted.value, wanted.between, inl (touched_back wanted.seen.row wanted.value wanted.has took))
        go (inr written) = inr (wanted.value, wanted.between, inr written)

  -- a key that changed so was written above the height or in the tail
  pub changed_above : (column : ℕ) (low high : Option Value) (key : List Value) → IsChangedBetween view column low high height key → IsChangedAbove view height key
  changed_above column low high key (value, between, inl above) =
      let touches_it = sym (ap (touches view.table column value (take above.0 history)) above.3) ∙ above.5 in
      (above.0, above.1, above.3, sym ((Decides-eqb view.table above.1.1.write.table).0 (first_true (view.table == above.1.1.write.table) _ touches_it)), above.6, inl above.4)
  changed_above column low high key (value, between, inr written) = (written.0, written.1, written.3, written.4, written.5, inr written.2)

-- ---- what a span wants

-- a column that is in range is in a row that fits
pub cell_in : (row : List Value) (column : ℕ) → column < length row → slice_get row column ≡ Some (value_at row column)
cell_in [] column within = absurd (omega (arith, within))
cell_in (v ∷ row) zero within = refl
cell_in (v ∷ row) (suc column) within = cell_in row column (omega (arith, within))

-- a column that is the number of none is not among the numbers
none_has : (column : ℕ) (columns : List ColumnIndex) → All (λ own. own.column ≡ column → ⊥) columns → Contains (map (λ own. own.column) columns) column → ⊥
none_has column [] none inside = let below = inside.1 in absurd (omega (arith, below))
none_has column (own ∷ columns) none (zero, below, is) = All-head (λ c. c.column ≡ column → ⊥) own columns none is
none_has column (own ∷ columns) none (suc k, below, is) = none_has column columns (All-tail (λ c. c.column ≡ column → ⊥) own columns none) (k, omega (arith, below), is)

-- a list of one item that has an item is that item alone
one_item : (xs : List ℕ) (x : ℕ) → length xs ≡ 1 → Contains (take 1 xs) x → xs ≡ x ∷ []
one_item [] x one inside = cc
one_item (y ∷ []) x one (zero, below, is) = ap (λ z. z ∷ []) is
one_item (y ∷ []) x one (suc k, below, is) = absurd (omega (arith, below))
one_item (y ∷ z ∷ xs) x one inside = absurd (omega (arith, one))

module _ (def : TableDef) (view : TableView) (column : ℕ) (low high : Option Value) where
  -- the span
  abbrev span : Read
  span = Span view.table column low high

  -- a column by which a span may read, and for which there is no index, is the whole key
  pub sole_key : Contains (span_columns def) column → HasColumns def view.index.now → All (λ own. own.column ≡ column → ⊥) view.index.now.columns.items → def.key ≡ column ∷ []
  sole_key may columns none = go (length def.key == 1) refl (Contains-append_cases (take 1 def.key) def.index column may)
    where
      kept : Contains (index_columns def) column → ⊥
      kept inside = none_has column view.index.now.columns.items none (subst (λ xs. Contains xs column) (sym columns) inside)

      go : (b : Bool) → (length def.key == 1) ≡ b → Contains (take 1 def.key) column ⊎ Contains def.index column → def.key ≡ column ∷ []
      go b one (inr inside) = absurd (kept (Contains-append_right (cond (length def.key == 1) [] (take 1 def.key)) def.index column inside))
      go true one (inl inside) = one_item def.key column ((Decides-eqb (length def.key) 1).0 one) inside
      go false more (inl inside) = absurd (kept (subst (λ b. Contains (cond b [] (take 1 def.key) ++ def.index) column) (sym more) (Contains-append_left (take 1 def.key) def.index column inside)))

  pub wanted : IsAsked def (Span view.table column low high) view → (height : ℕ) (q : ℕ × List Value) (seen : Seen) → get (tables_at height (history_in view)) q ≡ Some seen → is_read def (Span view.table column low high) (q, seen) ≡ true
      → (q.0 ≡ view.table) × IsWantedBy view column low high height q.1
  wanted asked height q seen there read_it = (
    in_table,
    record {
      by_cell = record { seen = seen; value = value_at seen.row column; is = own; has = cell_in seen.row column within; between = between };
      by_key = λ none. record {
        seen = seen;
        value = value_at seen.row column;
        is = own;
        own = sym stands.1 ∙ ap (map (value_at seen.row)) (sole_key asked.fits.0 asked.columns none);
        between = between;
      };
    },
  )
    where
      in_table : q.0 ≡ view.table
      in_table = sym ((Decides-eqb view.table q.0).0 (first_true (view.table == q.0) _ read_it))

      own : get (tables_at height (history_in view)) (view.table, q.1) ≡ Some seen
      own = ap (λ t. get (tables_at height (history_in view)) (t, q.1)) (sym in_table) ∙ there

      covered : (is_from low (value_at seen.row column) && is_up_to high (value_at seen.row column)) ≡ true
      covered = second_true (view.table == q.0) _ read_it

      between : IsBetween low high (value_at seen.row column)
      between = (first_true _ _ covered, second_true (is_from low (value_at seen.row column)) _ covered)

      stands : RowFits def seen.row × (key_of_row def seen.row ≡ q.1)
      stands =
          All-found ref_cmp ref_cmp-exact (Stands def view.table) q (entries (tables_at height (history_in view))) seen (all_stand def view.table asked.defs asked.declared height (history_in view) asked.history)
          (sym (get-entries (tables_at height (history_in view)) q) ∙ there) in_table

      within : column < length seen.row
      within = span_column_below def seen.row column stands.0 asked.fits.0
