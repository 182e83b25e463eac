-- The writes that a read hits, one by one.
use Rattle.std.proofs.Common.{◌≡◌, ◌∙◌, ℕ, ◌<◌, ◌≤◌, ◌⊎◌, inl, inr, List, [], ◌∷◌, ◌++◌, Bool, true, false, ◌&&◌, ◌||◌, ◌==◌, All, Contains, cond, Option, Some, None, refl, ap, sym, subst, arith, nat_le, nat_lt, slice_get, take}
use Rattle.std.specs.Option.{IsSomeAnd}
use Rattle.std.proofs.lemmas.Bool.Decides.{Decides-eqb}
use Rattle.std.proofs.lemmas.List.Elements.{All-contains, All-contains_itself, All-weaker}
use Rattle.rel_base.specs.Access.{PartFits, ReadFits, WriteFits, covers_some, hits_write, read_table}
use Rattle.rel_base.specs.Late.{where_declared}
use Rattle.rel_base.specs.Row.{is_from, value_at}
use Rattle.rel_base.specs.Schema.{span_columns}
use Rattle.rel_base.specs.Tables.{HistoryFits, Stamped, write_ref}
use Rattle.rel_base.specs.declared.access.Read.{Read}
use Rattle.rel_base.specs.declared.access.Read.TheVariants.{Point, Span}
use Rattle.rel_base.specs.declared.schema.TableDef.{TableDef}
use Rattle.rel_base.specs.declared.value.Value.{Value}
use Rattle.rel_base.proofs.Bits.{both_true, first_true, no_both, not_true, second_true}
use Rattle.rel_base.proofs.Columns.{span_column_below}
use Rattle.row_sets.specs.Watched.{is_watched}
use Rattle.row_sets.specs.Log.{FitsTable, history_of, stamped_of}
use Rattle.row_sets.specs.declared.entry.LogEntry.{LogEntry}
use Rattle.row_sets.specs.declared.hits.Watch.{Watch}
use Rattle.version_index.specs.Candidates.{IsBetween, is_forward}
use Rattle.version_index.specs.Chain.{IsFirst, is_late}
use Rattle.version_index.specs.Columns.{IsColumn, cell, has, touched_at, touches, touches_at}
use Rattle.version_index.specs.Hits.{Lowers}
use Rattle.version_index.specs.Left.{left_at}
use Rattle.version_index.specs.Log.{InOrder}
use Rattle.version_index.specs.Numbers.{ArePassing, least_with, passes, passes_at, passing}
use Rattle.version_index.specs.View.{IsAsked, history_in}
use Rattle.version_index.specs.declared.column.ColumnIndex.{ColumnIndex}
use Rattle.version_index.specs.declared.view.TableView.{TableView}
use Rattle.version_index.proofs.LeastHits.{first_agrees, hits_point}
use Rattle.version_index.proofs.Logged.{all_fail, blocks_rise, contains_got, get_history, le_false, lt_false}
use Rattle.version_index.proofs.Lowering.{lowers_none, lowers_one, lowers_then, lowers_weaker}
use Rattle.version_index.proofs.Passing.{IsTop, none_of, passing_all, passing_has, top_of}
use Rattle.version_index.proofs.Points.{all_fails, at_some, below_or, fails_all, take_fails}
use Rattle.version_index.proofs.Ranges.{none_between as none_in}
use Rattle.version_index.proofs.Wanted.{cell_in, value_itself}

-- ---- histories that fit

-- the writes of a declared table fit its declaration
pub fits_table : (defs : List TableDef) (def : TableDef) (table : ℕ) (history : List Stamped) → slice_get defs table ≡ Some def → HistoryFits defs history → FitsTable def table history
fits_table defs def table history declared fits =
    All-weaker (λ s. IsSomeAnd (slice_get defs s.1.write.table) (λ d. WriteFits d s.1.write)) (λ s. s.1.write.table ≡ table → WriteFits def s.1.write)
    (λ s fit same. subst (λ found. IsSomeAnd found (λ d. WriteFits d s.1.write)) (ap (slice_get defs) same ∙ declared) fit) history fits

module _ (def : TableDef) (read : Read) (view : TableView) (asked : IsAsked def read view) where
  -- the writes of the table of a read fit its declaration
  pub asked_fits : FitsTable def view.table (history_in view)
  asked_fits = fits_table asked.defs def view.table (history_in view) asked.declared asked.history

  pub read_fits_table : FitsTable def (read_table read) (history_in view)
  read_fits_table = subst (λ table. FitsTable def table (history_in view)) asked.table asked_fits

-- ---- the first

module _ {X : Type 0} (test : X → Bool) (xs : List X) where
  -- the first is one alone
  pub first_alone : (one other : Option ℕ) → IsFirst test xs one → IsFirst test xs other → one ≡ other
  first_alone None None first second = refl
  first_alone None (Some other) first second = absurd (no_both (passes_at test xs other) (at_some test xs other second.0) (all_fails test xs first other))
  first_alone (Some one) None first second = absurd (no_both (passes_at test xs one) (at_some test xs one first.0) (all_fails test xs second one))
  first_alone (Some one) (Some other) first second = go (below_or one other) (below_or other one)
    where
      go : (one < other) ⊎ (other ≤ one) → (other < one) ⊎ (one ≤ other) → Some one ≡ Some other
      go (inl before) w = absurd (no_both (passes_at test xs one) (at_some test xs one first.0) (take_fails test other xs second.1 one before))
      go (inr w) (inl before) = absurd (no_both (passes_at test xs other) (at_some test xs other second.0) (take_fails test one xs first.1 other before))
      go (inr down) (inr up) = let same : one ≡ other = omega (arith, down, up) in ap Some same

-- ---- heights

-- what is in no block above the one height is not watched
pub low_unwatched : (watch : Watch) (stamped : Stamped) → stamped.0 ≤ watch.after → is_watched watch stamped ≡ false
low_unwatched watch stamped low =
    ap (λ b. hits_write watch.def.now watch.read.now stamped.1.write && (b && nat_le stamped.0 watch.upto)) (lt_false watch.after stamped.0 low) ∙ all_fail (hits_write watch.def.now watch.read.now stamped.1.write)

-- where no height lies above the one and up to the other, nothing is watched
none_between : (watch : Watch) → watch.upto ≤ watch.after → (stamped : Stamped) → is_watched watch stamped ≡ false
none_between watch narrow stamped = go (below_or watch.after stamped.0)
  where
    hit : Bool
    hit = hits_write watch.def.now watch.read.now stamped.1.write

    go : (watch.after < stamped.0) ⊎ (stamped.0 ≤ watch.after) → is_watched watch stamped ≡ false
    go (inr down) = low_unwatched watch stamped down
    go (inl up) =
        ap (λ b. hit && (nat_lt watch.after stamped.0 && b)) (le_false stamped.0 watch.upto (omega (arith, up, narrow)))
        ∙ ap (λ b. hit && b) (all_fail (nat_lt watch.after stamped.0)) ∙ all_fail hit

pub nothing_between : (watch : Watch) (history : List Stamped) → watch.upto ≤ watch.after → IsFirst (is_watched watch) history None
nothing_between watch history narrow =
    All-weaker (Contains history) (λ stamped. is_watched watch stamped ≡ false) (λ stamped within. none_between watch narrow stamped) history (All-contains_itself history)

pub low_numbers : (watch : Watch) (history : List Stamped) (start : ℕ) → All (λ stamped. stamped.0 ≤ watch.after) (take start history) → (j : ℕ) → j < start → passes_at (is_watched watch) history j ≡ false
low_numbers watch history start low =
    take_fails (is_watched watch) start history (All-weaker (λ stamped. stamped.0 ≤ watch.after) (λ stamped. is_watched watch stamped ≡ false) (low_unwatched watch) (take start history) low)

-- no write up to one in no block above the height is watched
pub low_before : (watch : Watch) (entries : List LogEntry) (number : ℕ) (entry : LogEntry) → InOrder (history_of entries) → slice_get entries number ≡ Some entry → entry.block ≤ watch.after → (j : ℕ) → j ≤ number
    → passes_at (is_watched watch) (history_of entries) j ≡ false
low_before watch entries number entry ordered there low j down = go (slice_get (history_of entries) j) refl
  where
    go : (found : Option Stamped) → slice_get (history_of entries) j ≡ found → passes (is_watched watch) found ≡ false
    go None absent = refl
    go (Some stamped) here = let rise = blocks_rise (history_of entries) j number stamped (stamped_of entry) ordered here (get_history entries number entry there) down in low_unwatched watch stamped (omega (arith, rise, low))

-- ---- a span of a column

-- a row that it covers has a value between its ends
covers_between : (def : TableDef) (table column : ℕ) (low high : Option Value) (key : List Value) (row : Option (List Value)) → Contains (span_columns def) column → PartFits def key row
    → covers_some def (Span table column low high) row ≡ true → (value : Value) × IsBetween low high value × (has value (cell column row) ≡ true)
covers_between def table column low high key None may fits covers = cc
covers_between def table column low high key (Some row) may fits covers =
    let value = value_at row column in
    (value, (first_true _ _ covers, second_true (is_from low value) _ covers), ap (has value) (cell_in row column (span_column_below def row column fits.0 may)) ∙ value_itself value)

second_of : (a b c : Bool) → b ≡ true → (a || b || c) ≡ true
second_of true b c is = refl
second_of false b c is = ap (λ d. d || c) is

third_of : (a b c : Bool) → c ≡ true → (a || b || c) ≡ true
third_of true b c is = refl
third_of false true c is = refl
third_of false false c is = is

-- a write that it hits touches a value between its ends
hit_touches : (def : TableDef) (table column : ℕ) (low high : Option Value) (past : List Stamped) (stamped : Stamped) → Contains (span_columns def) column → (stamped.1.write.table ≡ table → WriteFits def stamped.1.write)
    → hits_write def (Span table column low high) stamped.1.write ≡ true → (value : Value) × IsBetween low high value × (touches table column value past (Some stamped) ≡ true)
hit_touches def table column low high past stamped may fits hits =
    either (covers_some def (Span table column low high) stamped.1.write.before) refl (second_true (table == stamped.1.write.table) _ hits)
  where
    in_table : (table == stamped.1.write.table) ≡ true
    in_table = first_true (table == stamped.1.write.table) _ hits

    fit : WriteFits def stamped.1.write
    fit = fits (sym ((Decides-eqb table stamped.1.write.table).0 in_table))

    found : Value → Bool
    found value = has value (cell column (left_at (write_ref stamped.1.write) past))

    part : (row : Option (List Value)) → PartFits def stamped.1.write.key row → covers_some def (Span table column low high) row ≡ true → (value : Value) × IsBetween low high value × (has value (cell column row) ≡ true)
    part row fitting covers = covers_between def table column low high stamped.1.write.key row may fitting covers

    either : (b : Bool) → covers_some def (Span table column low high) stamped.1.write.before ≡ b → (b || covers_some def (Span table column low high) stamped.1.write.after) ≡ true
        → (value : Value) × IsBetween low high value × (touches table column value past (Some stamped) ≡ true)
    either true covers w =
        let has_it = part stamped.1.write.before fit.before covers in
        (has_it.0, has_it.1, both_true _ _ in_table (second_of (found has_it.0) _ _ has_it.2))
    either false w covers =
        let has_it = part stamped.1.write.after fit.after covers in
        (has_it.0, has_it.1, both_true _ _ in_table (third_of (found has_it.0) (has has_it.0 (cell column stamped.1.write.before)) _ has_it.2))

module _ (watch : Watch) (view : TableView) (column : ℕ) (low high : Option Value) (asked : IsAsked watch.def.now watch.read.now view) (span : watch.read.now ≡ Span view.table column low high) where
  may : Contains (span_columns watch.def.now) column
  may = let fits = subst (ReadFits watch.def.now) span asked.fits in fits.0

  -- a write that is watched touches a value between the ends
  pub watched_touches : (j : ℕ) → passes_at (is_watched watch) (history_in view) j ≡ true → (value : Value) × IsBetween low high value × (touches_at view.table column value (history_in view) j ≡ true)
  watched_touches j passing_it = go (slice_get (history_in view) j) refl passing_it
    where
      go : (found : Option Stamped) → slice_get (history_in view) j ≡ found → passes (is_watched watch) found ≡ true
          → (value : Value) × IsBetween low high value × (touches view.table column value (take j (history_in view)) found ≡ true)
      go None absent is = cc
      go (Some stamped) there is =
          hit_touches watch.def.now view.table column low high (take j (history_in view)) stamped may
          (All-contains (λ s. s.1.write.table ≡ view.table → WriteFits watch.def.now s.1.write) (history_in view) stamped (asked_fits watch.def.now watch.read.now view asked) (contains_got (history_in view) j stamped there))
          (ap (λ read. hits_write watch.def.now read stamped.1.write) (sym span) ∙ first_true (hits_write watch.def.now watch.read.now stamped.1.write) _ is)

  -- so nothing is watched where nothing lies between them
  pub watched_backward : is_forward low high ≡ false → IsFirst (is_watched watch) (history_in view) None
  watched_backward backward =
      fails_all (is_watched watch) (history_in view)
      (λ j. not_true (passes_at (is_watched watch) (history_in view) j) (λ is. let touched = watched_touches j is in none_in low high touched.0 backward touched.1))

  module _ (own : ColumnIndex) (is : IsColumn view.table (history_in view) view.noted view.index.now.chains own) (same : own.column ≡ column) where
    -- a noted write that is watched is among those that touched a value between the ends
    pub watched_noted : (j : ℕ) → passes_at (is_watched watch) (history_in view) j ≡ true → j < view.noted → (value : Value) × IsBetween low high value × Contains (touched_at own.touched value) j
    watched_noted j passing_it below =
        let touched = watched_touches j passing_it in (
          touched.0,
          touched.1,
          subst (λ numbers. Contains numbers j) (sym (is.touched touched.0))
              (passing_all (touches_at view.table own.column touched.0 (history_in view)) view.noted j below (ap (λ c. touches_at view.table c touched.0 (history_in view) j) same ∙ touched.2)),
        )

-- ---- a walk back over numbers of noted writes

-- those below a number are left, and the first hit among those from there on was found
pub record HitWalk (watch : Watch) (view : TableView) (numbers left : List ℕ) (found first : Option ℕ) : Type 0 where
  pub test : ℕ → Bool
  pub all : numbers ≡ passing test view.noted
  pub end : ℕ
  pub within : end ≤ view.noted
  pub rest : left ≡ passing test end
  pub lowers : Lowers (passes_at (is_watched watch) (history_in view)) found first (λ j. (test j ≡ true) × (end ≤ j) × (j < view.noted))

module _ (watch : Watch) (view : TableView) where
  abbrev hit : ℕ → Bool
  hit = passes_at (is_watched watch) (history_in view)

  pub hit_start : (numbers : List ℕ) (found : Option ℕ) → ArePassing view.noted numbers → HitWalk watch view numbers numbers found found
  hit_start numbers found are = record {
    test = are.0;
    all = are.1;
    end = view.noted;
    within = omega arith;
    rest = are.1;
    lowers = lowers_none hit found (λ j. (are.0 j ≡ true) × (view.noted ≤ j) × (j < view.noted)) (λ j on is. absurd (omega (arith, on.1, on.2)));
  }

  module _ (numbers left : List ℕ) (found first : Option ℕ) (walk : HitWalk watch view numbers left found first) where
    module _ (last : ℕ) (earlier : List ℕ) (parts : left ≡ earlier ++ last ∷ []) where
      top : IsTop walk.test walk.end last earlier
      top = top_of walk.test walk.end last earlier (sym walk.rest ∙ parts)

      pub hit_below : last < view.noted
      hit_below = let low = top.below in let within = walk.within in omega (arith, low, within)

      pub hit_back : (entry : LogEntry) → slice_get view.entries.now last ≡ Some entry
          → HitWalk watch view numbers earlier found (cond (is_watched watch (stamped_of entry)) (Some (least_with last first)) first)
      hit_back entry there = record {
        test = walk.test;
        all = walk.all;
        end = last;
        within = let low = hit_below in omega (arith, low);
        rest = top.rest_is;
        lowers = subst (λ b. Lowers hit found (cond b (Some (least_with last first)) first) (λ j. (walk.test j ≡ true) × (last ≤ j) × (j < view.noted))) (ap (passes (is_watched watch)) (get_history view.entries.now last entry there))
            (lowers_then hit found first (cond (hit last) (Some (least_with last first)) first) (λ j. (walk.test j ≡ true) × (walk.end ≤ j) × (j < view.noted)) (λ j. j ≡ last) (λ j. (walk.test j ≡ true) × (last ≤ j) × (j < view.noted))
            (λ j on is. either j on (below_or last j) (below_or j walk.end)) walk.lowers (lowers_one hit last first));
      }
        where
          either : (j : ℕ) → (walk.test j ≡ true) × (last ≤ j) × (j < view.noted) → (last < j) ⊎ (j ≤ last) → (j < walk.end) ⊎ (walk.end ≤ j) → ((walk.test j ≡ true) × (walk.end ≤ j) × (j < view.noted)) ⊎ (j ≡ last)
          either j on (inr down) w = let up = on.1 in inr (omega (arith, up, down))
          either j on (inl up) (inl below) = absurd (no_both (walk.test j) on.0 (top.none j up below))
          either j on (inl up) (inr past) = inl (on.0, past, on.2)

      pub hit_stop : (entry : LogEntry) → InOrder (history_in view) → slice_get view.entries.now last ≡ Some entry → entry.block ≤ watch.after → Lowers hit found first (Contains numbers)
      hit_stop entry ordered there low =
          lowers_weaker hit found first (λ j. (walk.test j ≡ true) × (walk.end ≤ j) × (j < view.noted)) (Contains numbers)
          (λ j inside is. let on = passing_has walk.test view.noted j (subst (λ ns. Contains ns j) walk.all inside) in either j on is (below_or last j) (below_or j walk.end)) walk.lowers
        where
          either : (j : ℕ) → (j < view.noted) × (walk.test j ≡ true) → hit j ≡ true → (last < j) ⊎ (j ≤ last) → (j < walk.end) ⊎ (walk.end ≤ j) → (walk.test j ≡ true) × (walk.end ≤ j) × (j < view.noted)
          either j on is (inr down) w = absurd (no_both (hit j) is (low_before watch view.entries.now last entry ordered there low j down))
          either j on is (inl up) (inl below) = absurd (no_both (walk.test j) on.1 (top.none j up below))
          either j on is (inl up) (inr past) = (on.1, past, on.0)

    pub hit_end : left ≡ [] → Lowers hit found first (Contains numbers)
    hit_end none =
        lowers_weaker hit found first (λ j. (walk.test j ≡ true) × (walk.end ≤ j) × (j < view.noted)) (Contains numbers)
        (λ j inside is. let on = passing_has walk.test view.noted j (subst (λ ns. Contains ns j) walk.all inside) in either j on (below_or j walk.end)) walk.lowers
      where
        either : (j : ℕ) → (j < view.noted) × (walk.test j ≡ true) → (j < walk.end) ⊎ (walk.end ≤ j) → (walk.test j ≡ true) × (walk.end ≤ j) × (j < view.noted)
        either j on (inl below) = absurd (no_both (walk.test j) on.1 (none_of walk.test walk.end (sym walk.rest ∙ none) j below))
        either j on (inr past) = (on.1, past, on.0)

-- ---- a point

-- the first late write on its key is the first that it hits
pub point_watched : (defs : List TableDef) (watch : Watch) (table : ℕ) (key : List Value) (history : List Stamped) (found : Option ℕ) → slice_get defs table ≡ Some watch.def.now → HistoryFits defs history
    → watch.read.now ≡ Point table key → IsFirst (is_late (table, key) watch.after watch.upto) history found → IsFirst (is_watched watch) history found
point_watched defs watch table key history found declared fits is first =
    first_agrees (is_late (table, key) watch.after watch.upto) (is_watched watch) history found
    (All-weaker (λ s. IsSomeAnd (slice_get defs s.1.write.table) (λ d. WriteFits d s.1.write)) (λ s. is_late (table, key) watch.after watch.upto s ≡ is_watched watch s) agree history fits) first
  where
    agree : (s : Stamped) → IsSomeAnd (slice_get defs s.1.write.table) (λ d. WriteFits d s.1.write) → is_late (table, key) watch.after watch.upto s ≡ is_watched watch s
    agree s fit =
        ap (λ b. b && (nat_lt watch.after s.0 && nat_le s.0 watch.upto))
        (sym (hits_point defs watch.def.now table key s.1.write declared fit) ∙ ap (λ d. where_declared d (λ def. hits_write def (Point table key) s.1.write)) declared
        ∙ ap (λ read. hits_write watch.def.now read s.1.write) (sym is))
