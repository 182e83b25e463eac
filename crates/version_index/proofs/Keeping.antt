-- What a store keeps true, and what it says of the table of a read.
use Rattle.std.proofs.Common.{◌≡◌, ◌∙◌, ℕ, suc, zero, ◌++◌, ◌<◌, ◌≤◌, List, [], ◌∷◌, Some, None, IsTrue, All, true, drop, get_or, is_some, length, map, slice_get, refl, ap, sym, subst, arith}
use Rattle.std.proofs.lemmas.List.{length-map}
use Rattle.std.proofs.lemmas.List.Elements.{All-nil, All-cons, All-contains, All-head, All-tail, All-weaker}
use Rattle.rel_base.specs.Access.{ReadFits, WriteFits, read_table}
use Rattle.rel_base.specs.Among.{ReadFitsIn, WriteFitsIn}
use Rattle.rel_base.specs.Tables.{HistoryFits, Stamped}
use Rattle.rel_base.specs.declared.access.Place.{Place}
use Rattle.rel_base.specs.declared.access.Read.{Read}
use Rattle.rel_base.specs.declared.access.Write.{Write}
use Rattle.rel_base.specs.declared.schema.TableDef.{TableDef}
use Rattle.rel_base.specs.declared.value.Value.{Value}
use Rattle.rel_base.proofs.Bits.{no_both}
use Rattle.row_sets.specs.Versions.{IsBefore, are_rising, stamped_at}
use Rattle.row_sets.proofs.Histories.{fits_next, unwrapped}
use Rattle.row_sets.specs.Log.{history_of, stamped_of}
use Rattle.row_sets.specs.declared.entry.LogEntry.{LogEntry}
use Rattle.version_index.specs.Chains.{AreChains, lists_in, lists_of, numbers_at, slot_by, slot_in, slot_of}
use Rattle.version_index.specs.Columns.{IsColumn, place_in}
use Rattle.version_index.specs.Numbers.{last_in}
use Rattle.version_index.specs.Index.{AreNoted, HasColumns, IsEmptyColumn, IsEmptyIndex, IsIndex, columns_in, index_columns}
use Rattle.version_index.specs.Kept.{IsStore}
use Rattle.version_index.specs.Log.{InOrder}
use Rattle.version_index.specs.View.{IsAsked, IsView}
use Rattle.version_index.specs.declared.column.ColumnIndex.{ColumnIndex}
use Rattle.version_index.specs.declared.index.TableIndex.{TableIndex}
use Rattle.version_index.specs.declared.view.TableView.{TableView}
use Rattle.version_index.proofs.Behind.{noted_behind}
use Rattle.version_index.proofs.Lasts.{below_of_get}
use Rattle.version_index.proofs.Logged.{contains_got}
use Rattle.version_index.proofs.Ordered.{order_next}

-- the column numbers of an index
abbrev pub columns_of : TableIndex → List ℕ
columns_of index = map (λ (column : ColumnIndex). column.column) index.columns.items

module _ (defs : List TableDef) (entries : List LogEntry) (indexes : List TableIndex) (noted : ℕ) (kept : IsStore defs entries indexes noted) where
  -- each table has an index
  pub one_each : length indexes ≡ length defs
  one_each = sym (length-map indexes columns_of) ∙ ap length kept.columns ∙ length-map defs index_columns

  -- each entry is of a table that has an index
  pub entries_below : All (λ entry. entry.placed.write.table < length indexes) entries
  entries_below = go entries kept.fits
    where
      go : (es : List LogEntry) → HistoryFits defs (history_of es) → All (λ (entry : LogEntry). entry.placed.write.table < length indexes) es
      go [] fits = All-nil (λ (entry : LogEntry). entry.placed.write.table < length indexes)
      go (e ∷ es) fits =
          let Fit : Stamped → Type 0 = λ stamped. WriteFitsIn defs stamped.1.write in
          let below = below_of_get (λ def. WriteFits def e.placed.write) e.placed.write.table defs (All-head Fit (stamped_of e) (history_of es) fits) in
          let same = one_each in
          All-cons (λ (entry : LogEntry). entry.placed.write.table < length indexes) e es (omega (arith, below, same)) (go es (All-tail Fit (stamped_of e) (history_of es) fits))

  -- the table of a read has an index
  pub read_below : (read : Read) → ReadFitsIn defs read → read_table read < length indexes
  read_below read fits =
      let below = below_of_get (λ def. ReadFits def read) (read_table read) defs fits in
      let same = one_each in
      omega (arith, below, same)

  -- ---- what an index sees

  module _ (view : TableView) (of_log : view.entries.now ≡ entries) (of_noted : view.noted ≡ noted) (of_index : slice_get indexes view.table ≡ Some view.index.now) where
    pub is_view : IsView view
    is_view =
        record {
          index = subst (λ (n : ℕ). IsIndex view.table (history_of view.entries.now) n view.index.now) (sym of_noted)
              (subst (λ es. IsIndex view.table (history_of es) noted view.index.now) (sym of_log) (kept.told view.table view.index.now of_index));
          within = subst (λ n. n ≤ length view.entries.now) (sym of_noted) (subst (λ es. noted ≤ length es) (sym of_log) kept.within);
          in_order = subst (λ es. InOrder (history_of es)) (sym of_log) kept.in_order;
        }

    pub is_asked : (def : TableDef) (read : Read) → view.table ≡ read_table read → slice_get defs (read_table read) ≡ Some def → ReadFits def read → IsAsked def read view
    is_asked def read same declared fits =
        record {
          defs = defs;
          declared = ap (slice_get defs) same ∙ declared;
          history = subst (λ es. HistoryFits defs (history_of es)) (sym of_log) kept.fits;
          table = same;
          fits = fits;
          columns = own_columns view.table view.index.now def of_index (ap (slice_get defs) same ∙ declared);
        }
      where
        at_both : (is : List TableIndex) (ds : List TableDef) (number : ℕ) (index : TableIndex) (d : TableDef) → columns_in is ≡ map index_columns ds → slice_get is number ≡ Some index → slice_get ds number ≡ Some d → HasColumns d index
        at_both [] ds number index d same there here = cc
        at_both (i ∷ is) [] number index d same there here = cc
        at_both (i ∷ is) (e ∷ ds) zero index d same there here =
            ap columns_of (sym (unwrapped i index there)) ∙ ap (λ xs. get_or xs 0 (columns_of i)) same ∙ ap index_columns (unwrapped e d here)
        at_both (i ∷ is) (e ∷ ds) (suc number) index d same there here = at_both is ds number index d (ap (drop 1) same) there here

        own_columns : (number : ℕ) (index : TableIndex) (d : TableDef) → slice_get indexes number ≡ Some index → slice_get defs number ≡ Some d → HasColumns d index
        own_columns number index d there here = at_both indexes defs number index d kept.columns there here

  -- ---- how it goes on

  -- a store that took in the writes of a later place
  pub kept_next : (next : List LogEntry) (place : Place) (writes : List Write) → All (WriteFitsIn defs) writes → IsTrue (are_rising writes) → All (IsBefore place) (history_of entries)
      → history_of next ≡ history_of entries ++ stamped_at place writes → noted ≤ length next → IsStore defs next indexes noted
  kept_next next place writes fit rise later history within =
      record {
        fits = subst (HistoryFits defs) (sym history) (fits_next defs place (history_of entries) writes kept.fits fit);
        in_order = subst InOrder (sym history) (order_next place (history_of entries) writes kept.in_order later rise);
        within = within;
        told = subst (λ xs. AreNoted indexes xs noted) (sym history)
            (noted_behind (history_of entries) (stamped_at place writes) noted (let low = kept.within in let same = length-map entries stamped_of in omega (arith, low, same)) indexes kept.told);
        columns = kept.columns;
      }

  -- a store that noted more of its writes, which were lent for it
  pub kept_noted : (new : List TableIndex) (more : ℕ) (lent after : List LogEntry) → lent ≡ entries → after ≡ entries → more ≤ length lent → AreNoted new (history_of lent) more → columns_in new ≡ columns_in indexes
      → IsStore defs after new more
  kept_noted new more lent after was is within told same =
      subst (λ es. IsStore defs es new more) (sym is)
      (record {
        fits = kept.fits;
        in_order = kept.in_order;
        within = subst (λ (es : List LogEntry). more ≤ length es) was within;
        told = subst (λ es. AreNoted new (history_of es) more) was told;
        columns = same ∙ kept.columns;
      })

-- ---- a store of no writes

nothing_some : {X : Type 0} (x : X) → None ≡ Some x → ⊥
nothing_some x is = no_both true refl (ap is_some (sym is))

module _ (table : ℕ) (index : TableIndex) (empty : IsEmptyIndex index) where
  -- no key has a slot
  no_slots : (key : List Value) → slot_of index.chains key ≡ None
  no_slots key = (λ i. slot_by (empty.living i) (empty.ended i) key)

  some_slot : (key : List Value) (slot : ℕ) → slot_of index.chains key ≡ Some slot → ⊥
  some_slot key slot is = nothing_some slot (sym (no_slots key) ∙ is)

  empty_chains : AreChains table [] 0 index.chains
  empty_chains =
      record {
        numbers = λ key. ap (numbers_at (lists_of index.chains)) (no_slots key);
        lives = λ key. ap (λ es. is_some (slot_in es key)) empty.living;
        apart = λ key lives. ap (λ es. slot_in es key) empty.ended;
        within = λ key slot is. absurd (some_slot key slot is);
        own = λ one other slot is same. absurd (some_slot one slot is);
        keyed = λ slot below. let none = ap (λ xs. length (lists_in xs)) empty.numbers in absurd (omega (arith, below, none));
        all_in = λ key some. absurd (no_both (is_some (slot_of index.chains key)) some (ap is_some (no_slots key)));
        lasts = ap (map (λ n. Some n)) empty.lasts ∙ sym (ap (λ lists. map last_in (lists_in lists)) empty.numbers);
      }

  empty_column : (column : ColumnIndex) → IsEmptyColumn column → IsColumn table [] 0 index.chains column
  empty_column column none =
      record {
        living = λ key slot value is has. absurd (some_slot key slot is);
        touched = λ value. ap (λ es. numbers_at (lists_in column.touched.lists.items) (place_in es value)) none.1;
        listed =
            record {
              own = λ value place is. absurd (no_both (is_some (place_in column.touched.places.entries value)) (ap is_some is) (ap (λ es. is_some (place_in es value)) none.1));
              keyed = λ value place is. absurd (no_both (is_some (slice_get column.touched.values.items place)) (ap is_some is) (ap (λ values. is_some (slice_get values place)) none.2));
              long = ap length none.3 ∙ sym (ap length none.2);
            };
      }

  pub empty_index : IsIndex table [] 0 index
  empty_index = record { chains = empty_chains; columns = All-weaker IsEmptyColumn (IsColumn table [] 0 index.chains) empty_column index.columns.items empty.columns }

pub kept_empty : (defs : List TableDef) (indexes : List TableIndex) → columns_in indexes ≡ map index_columns defs → All IsEmptyIndex indexes → IsStore defs [] indexes 0
kept_empty defs indexes same empty =
    record {
      fits = All-nil (λ stamped. WriteFitsIn defs stamped.1.write);
      in_order = tt;
      within = omega arith;
      told = λ table index there. empty_index table index (All-contains IsEmptyIndex indexes index empty (contains_got indexes table index there));
      columns = same;
    }
