-- The row that a transaction sees at a key.
use Rattle.std.proofs.Common.{◌≡◌, ℕ, refl, ap, subst, sym, ◌∙◌, List, [], ◌∷◌, true, false, Bool, cond, map, Option, Some, None, IfSome, T}
use Rattle.std.specs.Prelude.{slice_get, unwrap_or}
use Rattle.std.specs.List.{AllByRecursion, filter}
use Rattle.std.specs.Option.{option_map, option_to_list}
use Rattle.std.specs.FinMap as finite
use Rattle.std.specs.FinMap.Entries.{find, is_sorted, below_all, where_key}
use Rattle.std.specs.Ordering.{is_lt, is_eq, eq_by_cmp}
use Rattle.std.specs.Cmp.{Equal-is}
use Rattle.std.specs.declared.cmp.Ordering.{Ordering}
use Rattle.std.specs.declared.cmp.Ordering.TheVariants.{Less, Equal, Greater}
use Rattle.std.proofs.lemmas.List.Elements.{recursion_from_All}
use Rattle.rel_base.specs.declared.access.Read.TheVariants.{Point, Span}
use Rattle.rel_base.specs.declared.access.Seen.{Seen}
use Rattle.rel_base.specs.declared.schema.TableDef.{TableDef}
use Rattle.rel_base.specs.declared.value.Value.{Value}
use Rattle.rel_base.specs.Tables.{Tables, rows, rows_among, is_read, ref_cmp, ref_cmp-exact, put_entry, seen_at, set_entry}
use Rattle.rel_base.proofs.Commutes.{get-set_entry}
use Rattle.rel_base.specs.Among.{StandsIn, TablesFit}
use Rattle.proc_syntax.specs.Laws.{OwnFit, laid, SeesItsWrites}
use Rattle.rel_base.specs.OwnWrites.{Own, first_row}
use Rattle.rel_base.proofs.Bits.{first, second}
use Rattle.proc_syntax.proofs.Merging.{entries_set, sees_laid}
use Rattle.proc_syntax.proofs.Runs.{covers_is, first_is}
use Rattle.proc_syntax.proofs.Sound.{all_put}

below_not : (o : Ordering) → T (is_lt o) → is_eq o ≡ false
below_not Less h = refl
below_not Equal h = absurd h
below_not Greater h = absurd h

abbrev Row : Type 0
Row = List Value

module _ (declared : List TableDef) where
  abbrev Stands : (ℕ × Row) × Seen → Type 0
  Stands e = StandsIn declared e.0 e.1.row

  abbrev OwnStands : (ℕ × Row) × Option Row → Type 0
  OwnStands e = IfSome e.1 (StandsIn declared e.0)

  -- ---- the tables with own writes put in fit

  all_where : (p : ℕ × Row → Bool) (es : List ((ℕ × Row) × Seen)) → AllByRecursion Stands es → AllByRecursion Stands (where_key ref_cmp p es)
  all_where p [] all = tt
  all_where p (e ∷ es) all =
      let rest = all_where p es all.1 in
      elim (p e.0) as (λ b. AllByRecursion Stands (cond b (e ∷ where_key ref_cmp p es) (where_key ref_cmp p es))) [ true ↦ (all.0, rest) | false ↦ rest ]

  all_entry : (ref : ℕ × Row) (block pos : ℕ) (row : Option Row) (es : List ((ℕ × Row) × Seen)) → IfSome row (StandsIn declared ref) → AllByRecursion Stands es → AllByRecursion Stands (put_entry es ref (seen_at block pos row))
  all_entry ref block pos None es new all = all_where _ es all
  all_entry ref block pos (Some row) es new all = all_put Stands ref (record { row = row; place = record { block = block; pos = pos } }) es all new

  all_laid : (block pos : ℕ) (own : List ((ℕ × Row) × Option Row)) (tables : Tables) → AllByRecursion OwnStands own → AllByRecursion Stands (finite.entries tables) → AllByRecursion Stands (finite.entries (laid block pos tables own))
  all_laid block pos [] tables owns all = all
  all_laid block pos (own ∷ rest) tables owns all =
      all_laid block pos rest (set_entry tables own.0 (seen_at block pos own.1)) owns.1
      (subst (AllByRecursion Stands) (sym (entries_set tables own.0 (seen_at block pos own.1))) (all_entry own.0 block pos own.1 (finite.entries tables) owns.0 all))

  -- ---- what they have at a key

  abbrev own_seen : ℕ → ℕ → Option (Option Row) → Option Seen → Option Seen
  own_seen block pos None old = old
  own_seen block pos (Some row) old = seen_at block pos row

  find_below : (ref : ℕ × Row) (es : List ((ℕ × Row) × Option Row)) → T (below_all ref_cmp ref es) → find ref_cmp ref es ≡ None
  find_below ref [] h = refl
  find_below ref (e ∷ es) h = ap (λ b. cond b (Some e.1) (find ref_cmp ref es)) (below_not _ (first _ _ h)) ∙ find_below ref es (second (is_lt (ref_cmp ref e.0)) _ h)

  get_laid : (block pos : ℕ) (ref : ℕ × Row) (own : List ((ℕ × Row) × Option Row)) (tables : Tables) → T (is_sorted ref_cmp own) → finite.get (laid block pos tables own) ref ≡ own_seen block pos (find ref_cmp ref own) (finite.get tables ref)
  get_laid block pos ref [] tables up = refl
  get_laid block pos ref (own ∷ rest) tables up =
      get_laid block pos ref rest (set_entry tables own.0 (seen_at block pos own.1)) (second (below_all ref_cmp own.0 rest) _ up)
      ∙ ap (own_seen block pos (find ref_cmp ref rest)) (get-set_entry tables own.0 (seen_at block pos own.1) ref)
      ∙ (elim (eq_by_cmp ref_cmp ref own.0)
      as (λ b. eq_by_cmp ref_cmp ref own.0 ≡ b → own_seen block pos (find ref_cmp ref rest) (cond b (seen_at block pos own.1) (finite.get tables ref)) ≡ own_seen block pos (cond b (Some own.1) (find ref_cmp ref rest)) (finite.get tables ref)) [
        | true ↦ λ same.
            let at_own : ref ≡ own.0 = ref_cmp-exact ref own.0 ((Equal-is (ref_cmp ref own.0)).0 same) in
            ap (λ f. own_seen block pos f (seen_at block pos own.1)) (find_below ref rest (subst (λ r. T (below_all ref_cmp r rest)) (sym at_own) (first _ _ up)))
        | false ↦ λ differs. refl
      ] refl)

  -- ---- a point read of tables that fit gets the row of its key, and no other

  module _ (def : TableDef) (table : ℕ) (key : Row) (here : slice_get declared table ≡ Some def) where
    none_above : (es : List ((ℕ × Row) × Seen)) → AllByRecursion Stands es → T (below_all ref_cmp (table, key) es) → rows_among def (Point table key) es ≡ []
    none_above [] all h = refl
    none_above (e ∷ es) all h =
        ap (λ b. map (λ x. x.1) (cond b (e ∷ filter (is_read def (Point table key)) es) (filter (is_read def (Point table key)) es))) (covers_is declared def table key here e all.0 ∙ below_not _ (first _ _ h))
        ∙ none_above es all.1 (second (is_lt (ref_cmp (table, key) e.0)) _ h)

    only_one : (es : List ((ℕ × Row) × Seen)) → AllByRecursion Stands es → T (is_sorted ref_cmp es) → rows_among def (Point table key) es ≡ option_to_list (find ref_cmp (table, key) es)
    only_one [] all up = refl
    only_one (e ∷ es) all up =
        ap (λ b. map (λ x. x.1) (cond b (e ∷ filter (is_read def (Point table key)) es) (filter (is_read def (Point table key)) es))) (covers_is declared def table key here e all.0)
        ∙ (elim (eq_by_cmp ref_cmp (table, key) e.0)
        as (λ b. eq_by_cmp ref_cmp (table, key) e.0 ≡ b → map (λ x. x.1) (cond b (e ∷ filter (is_read def (Point table key)) es) (filter (is_read def (Point table key)) es)) ≡ option_to_list (cond b (Some e.1) (find ref_cmp (table, key) es))) [
          | true ↦ λ same.
              let at_entry : (table, key) ≡ e.0 = ref_cmp-exact (table, key) e.0 ((Equal-is (ref_cmp (table, key) e.0)).0 same) in
              ap (λ l. e.1 ∷ l) (none_above es all.1 (subst (λ r. T (below_all ref_cmp r es)) (sym at_entry) (first _ _ up)))
          | false ↦ λ differs. only_one es all.1 (second (below_all ref_cmp e.0 es) _ up)
        ] refl)

    row_list : (o : Option Seen) → map (λ seen. seen.row) (option_to_list o) ≡ option_to_list (option_map (λ seen. seen.row) o)
    row_list None = refl
    row_list (Some seen) = refl

    own_row : (block pos : ℕ) (found : Option (Option Row)) (old : Option Seen) → option_map (λ seen. seen.row) (own_seen block pos found old) ≡ unwrap_or found (option_map (λ seen. seen.row) old)
    own_row block pos None old = refl
    own_row block pos (Some None) old = refl
    own_row block pos (Some (Some row)) old = refl

    pub sees_point : (block pos : ℕ) (tables : Tables) (own : Own) → TablesFit declared tables → OwnFit declared own
        → option_to_list (unwrap_or (finite.get own (table, key)) (first_row (rows def (Point table key) tables))) ≡ map (λ seen. seen.row) (rows def (Point table key) (laid block pos tables (finite.entries own)))
    sees_point block pos tables own fit owns =
        let after = laid block pos tables (finite.entries own) in
        let all = recursion_from_All Stands (finite.entries tables) fit in
        let all_after = all_laid block pos (finite.entries own) tables (recursion_from_All OwnStands (finite.entries own) owns) all in
        let was : first_row (rows def (Point table key) tables) ≡ option_map (λ seen. seen.row) (finite.get tables (table, key)) =
        first_is declared def table key here (finite.entries tables) all ∙ ap (option_map (λ seen. seen.row)) (sym (finite.get-entries tables (table, key))) in
        let is : finite.get after (table, key) ≡ own_seen block pos (finite.get own (table, key)) (finite.get tables (table, key)) =
        get_laid block pos (table, key) (finite.entries own) tables (finite.entries_sorted own) ∙ ap (λ f. own_seen block pos f (finite.get tables (table, key))) (sym (finite.get-entries own (table, key))) in
        ap (λ o. option_to_list (unwrap_or (finite.get own (table, key)) o)) was
        ∙ ap option_to_list (sym (own_row block pos (finite.get own (table, key)) (finite.get tables (table, key))))
        ∙ sym (ap (map (λ seen. seen.row)) (only_one (finite.entries after) all_after (finite.entries_sorted after)) ∙ row_list _ ∙ ap (λ o. option_to_list (option_map (λ seen. seen.row) o)) (sym (finite.get-entries after (table, key)) ∙ is))

pub sees_its_writes : SeesItsWrites
sees_its_writes declared def (Point table key) block pos tables own here fit owns = sees_point declared def table key here block pos tables own fit owns
sees_its_writes declared def (Span table column low high) block pos tables own here fit owns = sees_laid declared def (Span table column low high) block pos tables own here fit
