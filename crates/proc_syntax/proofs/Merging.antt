-- The rows that a transaction sees are those of the tables with its own writes put in.
use Rattle.std.proofs.Common.{◌≡◌, ℕ, refl, ap, subst, sym, ◌∙◌, List, [], ◌∷◌, true, false, cond, not, map, Option, Some, None, IfSome, T, ◌&&◌, ◌==◌}
use Rattle.std.specs.Prelude.{slice_get}
use Rattle.std.specs.List.{AllByRecursion, filter}
use Rattle.std.specs.FinMap as finite
use Rattle.std.specs.FinMap.Entries.{put, where_key, by_order, is_sorted, below_all, find}
use Rattle.std.specs.Ordering.{is_lt, is_eq, eq_by_cmp, nat_cmp, ordering_then}
use Rattle.std.specs.Cmp.{IsTotalOrder, Equal-is, eq_by_cmp_equiv, nat_cmp_total}
use Rattle.std.specs.Cmp.Derive.{both_true}
use Rattle.std.specs.declared.cmp.Ordering.{Ordering}
use Rattle.std.specs.declared.cmp.Ordering.TheVariants.{Less, Equal, Greater}
use Rattle.std.proofs.lemmas.Bool.{eqb-true, eq-eqb}
use Rattle.std.proofs.lemmas.List.Elements.{recursion_from_All}
use Rattle.rel_base.specs.declared.access.Read.{Read}
use Rattle.rel_base.specs.declared.access.Seen.{Seen}
use Rattle.rel_base.specs.declared.schema.TableDef.{TableDef}
use Rattle.rel_base.specs.declared.value.Value.{Value}
use Rattle.rel_base.specs.Access.{read_table, covers_row}
use Rattle.rel_base.specs.Schema.{RowFits, key_of_row}
use Rattle.rel_base.specs.Tables.{Tables, rows, rows_among, is_read, ref_cmp, ref_cmp-total, ref_cmp-exact, put_entry, seen_at, set_entry}
use Rattle.rel_base.specs.Value.{key_cmp}
use Rattle.rel_base.proofs.Frames.{filter-put, filter-where_key, entries-remove, put_front, not_there}
use Rattle.rel_base.specs.Among.{StandsIn, TablesFit}
use Rattle.proc_syntax.specs.Laws.{laid}
use Rattle.rel_base.specs.OwnWrites.{Own, Keyed, keyed, set_row, covered, lay, lay_all}
use Rattle.rel_base.proofs.Bits.{and_false, both, first, first_true, is_Less, second}

is_less : (o : Ordering) → o ≡ Less → T (is_lt o)
is_less o e = subst (λ r. T (is_lt r)) (sym e) tt

-- ---- entries in order

module _ {K X : Type 0} (R : K → K → Ordering) where
  below_more : IsTotalOrder R → (x y : K) (es : List (K × X)) → R x y ≡ Less → T (below_all R y es) → T (below_all R x es)
  below_more total x y [] p h = tt
  below_more total x y (e ∷ es) p h = both _ _ (is_less _ (total.trans x y e.0 p (is_Less _ (first _ _ h)))) (below_more total x y es p (second (is_lt (R y e.0)) _ h))

-- keys of one table compare as the keys do
one_table : (table : ℕ) (k l : List Value) → ref_cmp (table, k) (table, l) ≡ key_cmp k l
one_table table k l = ap (λ o. ordering_then o (key_cmp k l)) ((Equal-is (nat_cmp table table)).0 ((eq_by_cmp_equiv nat_cmp_total).refl table))

abbrev Entry : Type 0
Entry = (ℕ × List Value) × Seen

-- the entries after one is set
pub entries_set : (tables : Tables) (ref : ℕ × List Value) (new : Option Seen) → finite.entries (set_entry tables ref new) ≡ put_entry (finite.entries tables) ref new
entries_set tables ref None = entries-remove ref_cmp-total ref_cmp-exact tables ref
entries_set tables ref (Some seen) = finite.entries-insert ref_cmp-total tables ref seen

module _ (def : TableDef) (read : Read) where
  abbrev shown : Entry → List Value × List Value
  shown e = (e.0.1, e.1.row)

  -- the rows that a read gets of entries, by the keys of the entries
  abbrev pub got : List Entry → Keyed
  got es = map shown (filter (is_read def read) es)

  read_first : (e : Entry) (es : List Entry) → is_read def read e ≡ true → got (e ∷ es) ≡ shown e ∷ got es
  read_first e es reads = ap (λ b. map shown (cond b (e ∷ filter (is_read def read) es) (filter (is_read def read) es))) reads

  skip_first : (e : Entry) (es : List Entry) → is_read def read e ≡ false → got (e ∷ es) ≡ got es
  skip_first e es misses = ap (λ b. map shown (cond b (e ∷ filter (is_read def read) es) (filter (is_read def read) es))) misses

  at_table : (e : Entry) → is_read def read e ≡ true → read_table read ≡ e.0.0
  at_table e reads = eqb-true (read_table read) e.0.0 (first_true _ _ reads)

  -- a key of the read's table, against an entry that is read
  against : (key : List Value) (e : Entry) → is_read def read e ≡ true → ref_cmp (read_table read, key) e.0 ≡ key_cmp key e.0.1
  against key e reads = subst (λ t. ref_cmp (read_table read, key) (t, e.0.1) ≡ key_cmp key e.0.1) (at_table e reads) (one_table (read_table read) key e.0.1)

  below_got : (key : List Value) (es : List Entry) → T (below_all ref_cmp (read_table read, key) es) → T (below_all key_cmp key (got es))
  below_got key [] h = tt
  below_got key (e ∷ es) h =
      let rest = below_got key es (second (is_lt (ref_cmp (read_table read, key) e.0)) _ h) in
      elim (is_read def read e) as (λ b. is_read def read e ≡ b → T (below_all key_cmp key (map shown (cond b (e ∷ filter (is_read def read) es) (filter (is_read def read) es))))) [
        | true ↦ λ reads. both _ _ (subst (λ o. T (is_lt o)) (against key e reads) (first _ _ h)) rest
        | false ↦ λ misses. rest
      ] refl

  module _ (key : List Value) where
    abbrev ref : ℕ × List Value
    ref = (read_table read, key)

    abbrev without : List Entry → List Entry
    without = where_key ref_cmp (λ r. not (eq_by_cmp ref_cmp ref r))

    abbrev taken : Keyed → Keyed
    taken = where_key key_cmp (λ k. not (eq_by_cmp key_cmp key k))

    -- a row that is taken out
    got_drop : (es : List Entry) → got (without es) ≡ taken (got es)
    got_drop [] = refl
    got_drop (e ∷ es) =
        let rest = got_drop es in
        elim (is_read def read e)
        as (λ b. is_read def read e ≡ b → got (cond (not (eq_by_cmp ref_cmp ref e.0)) (e ∷ without es) (without es)) ≡ taken (map shown (cond b (e ∷ filter (is_read def read) es) (filter (is_read def read) es)))) [
          | true ↦ λ reads.
              ap (λ o. got (cond (not (is_eq o)) (e ∷ without es) (without es))) (against key e reads)
              ∙ (elim (eq_by_cmp key_cmp key e.0.1) as (λ t. got (cond (not t) (e ∷ without es) (without es)) ≡ cond (not t) (shown e ∷ taken (got es)) (taken (got es)))
              [ true ↦ rest | false ↦ read_first e (without es) reads ∙ ap (λ l. shown e ∷ l) rest ])
          | false ↦ λ misses.
              elim (eq_by_cmp ref_cmp ref e.0) as (λ t. got (cond (not t) (e ∷ without es) (without es)) ≡ taken (got es))
              [ true ↦ rest | false ↦ skip_first e (without es) misses ∙ rest ]
        ] refl

    new_reads : (seen : Seen) → covers_row def read seen.row ≡ true → is_read def read (ref, seen) ≡ true
    new_reads seen covers = both_true (eq-eqb (read_table read) (read_table read) refl) covers

    new_misses : (seen : Seen) → covers_row def read seen.row ≡ false → is_read def read (ref, seen) ≡ false
    new_misses seen misses = ap (λ b. (read_table read == read_table read) && b) misses ∙ and_false (read_table read == read_table read)

    below_both : (e : Entry) (es : List Entry) → T (is_sorted ref_cmp (e ∷ es)) → ref_cmp ref e.0 ≡ Less → T (below_all ref_cmp ref (e ∷ es))
    below_both e es up lt = both _ _ (is_less _ lt) (below_more ref_cmp ref_cmp-total ref e.0 es lt (first _ _ up))

    below_same : (e : Entry) (es : List Entry) → T (is_sorted ref_cmp (e ∷ es)) → ref ≡ e.0 → T (below_all ref_cmp ref es)
    below_same e es up same = subst (λ r. T (below_all ref_cmp r es)) (sym same) (first _ _ up)

    -- a row that is read is put
    got_put : (seen : Seen) (es : List Entry) → T (is_sorted ref_cmp es) → covers_row def read seen.row ≡ true → got (put ref_cmp ref seen es) ≡ put key_cmp key seen.row (got es)
    got_put seen [] up covers = read_first (ref, seen) [] (new_reads seen covers)
    got_put seen (e ∷ es) up covers =
        let rest = got_put seen es (second (below_all ref_cmp e.0 es) _ up) covers in
        let placed : Ordering → Keyed = λ o. by_order o ((key, seen.row) ∷ shown e ∷ got es) ((e.0.1, seen.row) ∷ got es) (shown e ∷ put key_cmp key seen.row (got es)) in
        elim (ref_cmp ref e.0)
        as (λ o. ref_cmp ref e.0 ≡ o → got (by_order o ((ref, seen) ∷ e ∷ es) ((e.0, seen) ∷ es) (e ∷ put ref_cmp ref seen es)) ≡ put key_cmp key seen.row (got (e ∷ es))) [
          | Less ↦ λ lt. read_first (ref, seen) (e ∷ es) (new_reads seen covers) ∙ sym (put_front key_cmp key seen.row (got (e ∷ es)) (below_got key (e ∷ es) (below_both e es up lt)))
          | Equal ↦ λ eq.
              let same : ref ≡ e.0 = ref_cmp-exact ref e.0 eq in
              read_first (e.0, seen) es (subst (λ r. is_read def read (r, seen) ≡ true) same (new_reads seen covers))
              ∙ (elim (is_read def read e)
              as (λ b. is_read def read e ≡ b → (e.0.1, seen.row) ∷ got es ≡ put key_cmp key seen.row (map shown (cond b (e ∷ filter (is_read def read) es) (filter (is_read def read) es)))) [
                | true ↦ λ reads. sym (ap placed (sym (against key e reads) ∙ eq))
                | false ↦ λ misses. ap (λ k. (k, seen.row) ∷ got es) (sym (ap (λ r. r.1) same)) ∙ sym (put_front key_cmp key seen.row (got es) (below_got key es (below_same e es up same)))
              ] refl)
          | Greater ↦ λ gt.
              elim (is_read def read e)
              as (λ b. is_read def read e ≡ b → got (e ∷ put ref_cmp ref seen es) ≡ put key_cmp key seen.row (map shown (cond b (e ∷ filter (is_read def read) es) (filter (is_read def read) es)))) [
                | true ↦ λ reads. read_first e (put ref_cmp ref seen es) reads ∙ ap (λ l. shown e ∷ l) rest ∙ sym (ap placed (sym (against key e reads) ∙ gt))
                | false ↦ λ misses. skip_first e (put ref_cmp ref seen es) misses ∙ rest
              ] refl
        ] refl

    -- a row that is not read takes the key's row out
    got_miss : (seen : Seen) (es : List Entry) → T (is_sorted ref_cmp es) → covers_row def read seen.row ≡ false → got (put ref_cmp ref seen es) ≡ taken (got es)
    got_miss seen [] up misses = skip_first (ref, seen) [] (new_misses seen misses)
    got_miss seen (e ∷ es) up misses =
        let rest = got_miss seen es (second (below_all ref_cmp e.0 es) _ up) misses in
        let left : Ordering → Keyed = λ o. cond (not (is_eq o)) (shown e ∷ taken (got es)) (taken (got es)) in
        elim (ref_cmp ref e.0)
        as (λ o. ref_cmp ref e.0 ≡ o → got (by_order o ((ref, seen) ∷ e ∷ es) ((e.0, seen) ∷ es) (e ∷ put ref_cmp ref seen es)) ≡ taken (got (e ∷ es))) [
          | Less ↦ λ lt. skip_first (ref, seen) (e ∷ es) (new_misses seen misses) ∙ sym (not_there key_cmp key (got (e ∷ es)) (below_got key (e ∷ es) (below_both e es up lt)))
          | Equal ↦ λ eq.
              let same : ref ≡ e.0 = ref_cmp-exact ref e.0 eq in
              let gone : taken (got es) ≡ got es = not_there key_cmp key (got es) (below_got key es (below_same e es up same)) in
              skip_first (e.0, seen) es (subst (λ r. is_read def read (r, seen) ≡ false) same (new_misses seen misses))
              ∙ (elim (is_read def read e)
              as (λ b. is_read def read e ≡ b → got es ≡ taken (map shown (cond b (e ∷ filter (is_read def read) es) (filter (is_read def read) es)))) [
                | true ↦ λ reads. sym gone ∙ sym (ap left (sym (against key e reads) ∙ eq))
                | false ↦ λ unread. sym gone
              ] refl)
          | Greater ↦ λ gt.
              elim (is_read def read e)
              as (λ b. is_read def read e ≡ b → got (e ∷ put ref_cmp ref seen es) ≡ taken (map shown (cond b (e ∷ filter (is_read def read) es) (filter (is_read def read) es)))) [
                | true ↦ λ reads. read_first e (put ref_cmp ref seen es) reads ∙ ap (λ l. shown e ∷ l) rest ∙ sym (ap left (sym (against key e reads) ∙ gt))
                | false ↦ λ unread. skip_first e (put ref_cmp ref seen es) unread ∙ rest
              ] refl
        ] refl

    -- one own write of the read's table
    got_own : (block pos : ℕ) (row : Option (List Value)) (es : List Entry) → T (is_sorted ref_cmp es) → got (put_entry es ref (seen_at block pos row)) ≡ set_row (got es) key (covered def read row)
    got_own block pos None es up = got_drop es
    got_own block pos (Some row) es up =
        let seen : Seen = record { row = row; place = record { block = block; pos = pos } } in
        elim (covers_row def read row) as (λ b. covers_row def read row ≡ b → got (put ref_cmp ref seen es) ≡ set_row (got es) key (cond b (Some row) None))
        [ true ↦ got_put seen es up | false ↦ got_miss seen es up ] refl

  -- one own write of another table
  got_other : (own : (ℕ × List Value) × Option Seen) (es : List Entry) → T (is_sorted ref_cmp es) → (read_table read == own.0.0) ≡ false → got (put_entry es own.0 own.1) ≡ got es
  got_other own es up other = ap (map shown) (by_new own.1)
    where
      unread : (seen : Seen) → is_read def read (own.0, seen) ≡ false
      unread seen = ap (λ b. b && covers_row def read seen.row) other

      old : (o : Option Seen) → IfSome o (λ seen. is_read def read (own.0, seen) ≡ false)
      old None = tt
      old (Some seen) = unread seen

      by_new : (new : Option Seen) → filter (is_read def read) (put_entry es own.0 new) ≡ filter (is_read def read) es
      by_new None = filter-where_key ref_cmp ref_cmp-exact (is_read def read) own.0 es up (old (find ref_cmp own.0 es))
      by_new (Some seen) = filter-put ref_cmp ref_cmp-exact (is_read def read) own.0 seen es (unread seen) (old (find ref_cmp own.0 es))

  -- one own write
  got_lay : (block pos : ℕ) (own : (ℕ × List Value) × Option (List Value)) (es : List Entry) → T (is_sorted ref_cmp es) → got (put_entry es own.0 (seen_at block pos own.1)) ≡ lay def read (got es) own
  got_lay block pos own es up =
      elim (read_table read == own.0.0) as (λ b. (read_table read == own.0.0) ≡ b → got (put_entry es own.0 (seen_at block pos own.1)) ≡ cond b (set_row (got es) own.0.1 (covered def read own.1)) (got es)) [
        | true ↦ λ same.
            subst (λ table. got (put_entry es (table, own.0.1) (seen_at block pos own.1)) ≡ set_row (got es) own.0.1 (covered def read own.1)) (eqb-true (read_table read) own.0.0 same) (got_own own.0.1 block pos own.1 es up)
        | false ↦ got_other (own.0, seen_at block pos own.1) es up
      ] refl

  -- own writes in turn
  got_laid : (block pos : ℕ) (own : List ((ℕ × List Value) × Option (List Value))) (tables : Tables) → got (finite.entries (laid block pos tables own)) ≡ lay_all def read (got (finite.entries tables)) own
  got_laid block pos [] tables = refl
  got_laid block pos (own ∷ rest) tables =
      got_laid block pos rest (set_entry tables own.0 (seen_at block pos own.1))
      ∙ ap (λ rows. lay_all def read rows rest) (ap got (entries_set tables own.0 (seen_at block pos own.1)) ∙ got_lay block pos own (finite.entries tables) (finite.entries_sorted tables))

  -- the rows alone
  got_rows : (es : List Entry) → map (λ e. e.1) (got es) ≡ map (λ seen. seen.row) (rows_among def read es)
  got_rows es = rows_of (filter (is_read def read) es)
    where
      rows_of : (es : List Entry) → map (λ e. e.1) (map shown es) ≡ map (λ seen. seen.row) (map (λ e. e.1) es)
      rows_of [] = refl
      rows_of (e ∷ es) = ap (λ l. e.1.row ∷ l) (rows_of es)

  -- rows that stand under their keys have the keys of their entries
  pub keyed_is : (declared : List TableDef) → slice_get declared (read_table read) ≡ Some def → (es : List Entry) → AllByRecursion (λ e. StandsIn declared e.0 e.1.row) es → keyed def (rows_among def read es) ≡ got es
  keyed_is declared here [] stand = refl
  keyed_is declared here (e ∷ es) stand =
      let rest = keyed_is declared here es stand.1 in
      elim (is_read def read e)
      as (λ b. is_read def read e ≡ b → keyed def (map (λ x. x.1) (cond b (e ∷ filter (is_read def read) es) (filter (is_read def read) es))) ≡ map shown (cond b (e ∷ filter (is_read def read) es) (filter (is_read def read) es))) [
        | true ↦ λ reads. ap (λ k. (k, e.1.row) ∷ keyed def (rows_among def read es)) (under (at_table e reads)) ∙ ap (λ l. shown e ∷ l) rest
        | false ↦ λ misses. rest
      ] refl
    where
      under : read_table read ≡ e.0.0 → key_of_row def e.1.row ≡ e.0.1
      under same =
          let place : slice_get declared e.0.0 ≡ Some def = subst (λ t. slice_get declared t ≡ Some def) same here in
          let fits : RowFits def e.1.row × (key_of_row def e.1.row ≡ e.0.1) = rw place at stand.0 in
          fits.1

-- entries in order are read in order
got_sorted : (def : TableDef) (read : Read) (es : List Entry) → T (is_sorted ref_cmp es) → T (is_sorted key_cmp (got def read es))
got_sorted def read [] up = tt
got_sorted def read (e ∷ es) up =
    let rest = got_sorted def read es (second (below_all ref_cmp e.0 es) _ up) in
    elim (is_read def read e)
    as (λ b. is_read def read e ≡ b → T (is_sorted key_cmp (map (shown def read) (cond b (e ∷ filter (is_read def read) es) (filter (is_read def read) es))))) [
      | true ↦ λ reads. both _ _ (below_got def read e.0.1 es (subst (λ t. T (below_all ref_cmp (t, e.0.1) es)) (sym (at_table def read e reads)) (first _ _ up))) rest
      | false ↦ λ misses. rest
    ] refl

-- the rows that a read gets of tables that fit stand in the order of their keys
pub keyed_sorted : (declared : List TableDef) (def : TableDef) (read : Read) (tables : Tables) → slice_get declared (read_table read) ≡ Some def → TablesFit declared tables → T (is_sorted key_cmp (keyed def (rows def read tables)))
keyed_sorted declared def read tables here fit =
    subst (λ rows. T (is_sorted key_cmp rows)) (sym (keyed_is def read declared here (finite.entries tables) (recursion_from_All (λ e. StandsIn declared e.0 e.1.row) (finite.entries tables) fit)))
    (got_sorted def read (finite.entries tables) (finite.entries_sorted tables))

-- at any read, by the laying of own writes
pub sees_laid : (declared : List TableDef) (def : TableDef) (read : Read) (block pos : ℕ) (tables : Tables) (own : Own) → slice_get declared (read_table read) ≡ Some def → TablesFit declared tables
    → map (λ e. e.1) (lay_all def read (keyed def (rows def read tables)) (finite.entries own)) ≡ map (λ seen. seen.row) (rows def read (laid block pos tables (finite.entries own)))
sees_laid declared def read block pos tables own here fit =
    ap (λ rows. map (λ e. e.1) (lay_all def read rows (finite.entries own))) (keyed_is def read declared here (finite.entries tables) (recursion_from_All (λ e. StandsIn declared e.0 e.1.row) (finite.entries tables) fit))
    ∙ ap (map (λ e. e.1)) (sym (got_laid def read block pos (finite.entries own) tables))
    ∙ got_rows def read (finite.entries (laid block pos tables (finite.entries own)))
