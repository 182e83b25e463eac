-- Rows that fit their table: those that are read, those that the transaction wrote, and rows with columns set.
use Rattle.std.proofs.Common.{◌≡◌, ℕ, refl, sym, ap, subst, ◌∙◌, List, [], ◌∷◌, map, Bool, true, false, cond, not, ◌==◌, Option, Some, None, IfSome}
use Rattle.std.specs.Prelude.{slice_get, unwrap_or}
use Rattle.std.specs.FinMap as finite
use Rattle.std.specs.FinMap.Entries.{put, by_order, where_key, find}
use Rattle.std.specs.List.{AllByRecursion, filter}
use Rattle.std.specs.Option.{IsSomeAnd, option_to_list}
use Rattle.std.specs.Ordering.{is_eq, eq_by_cmp}
use Rattle.std.specs.declared.cmp.Ordering.{Ordering}
use Rattle.std.specs.declared.cmp.Ordering.TheVariants.{Less, Equal, Greater}
use Rattle.std.proofs.lemmas.Bool.{eqb-true}
use Rattle.rel_base.specs.declared.access.Read.{Read}
use Rattle.rel_base.specs.declared.access.Read.TheVariants.{Point, Span}
use Rattle.rel_base.specs.declared.access.Seen.{Seen}
use Rattle.rel_base.specs.declared.schema.TableDef.{TableDef}
use Rattle.rel_base.specs.declared.value.Value.{Value}
use Rattle.rel_base.specs.Access.{read_table, covers_row}
use Rattle.rel_base.specs.Schema.{RowFits, key_of_row}
use Rattle.rel_base.specs.Tables.{Tables, rows, rows_among, is_read, ref_cmp, ref_cmp-total, ref_cmp-exact}
use Rattle.rel_base.specs.Value.{key_cmp}
use Rattle.rel_base.specs.Among.{StandsIn}
use Rattle.rel_base.specs.OwnWrites.{Own, Keyed, keyed, set_row, covered, lay, lay_all, first_row, merged}
use Rattle.rel_base.proofs.Bits.{first_true, is_Equal, second_true}
use Rattle.rel_base.proofs.KeyOrder.{same_key}
use Rattle.proc_syntax.proofs.Sound.{all_put}

-- ---- entries

all_put_value : {K X : Type 0} (R : K → K → Ordering) (P : X → Type 0) (k : K) (v : X) (es : List (K × X)) → AllByRecursion (λ e. P e.1) es → P v → AllByRecursion (λ e. P e.1) (put R k v es)
all_put_value R P k v [] all new = (new, tt)
all_put_value R P k v (e ∷ es) all new =
    elim (R k e.0) as (λ o. AllByRecursion (λ e. P e.1) (by_order o ((k, v) ∷ e ∷ es) ((e.0, v) ∷ es) (e ∷ put R k v es)))
    [ Less ↦ (new, all) | Equal ↦ (new, all.1) | Greater ↦ (all.0, all_put_value R P k v es all.1 new) ]

all_where : {K X : Type 0} (R : K → K → Ordering) (P : X → Type 0) (p : K → Bool) (es : List (K × X)) → AllByRecursion (λ e. P e.1) es → AllByRecursion (λ e. P e.1) (where_key R p es)
all_where R P p [] all = tt
all_where R P p (e ∷ es) all =
    elim (p e.0) as (λ b. AllByRecursion (λ e. P e.1) (cond b (e ∷ where_key R p es) (where_key R p es))) [ true ↦ (all.0, all_where R P p es all.1) | false ↦ all_where R P p es all.1 ]

all_find : {X : Type 0} (P : (ℕ × List Value) × X → Type 0) (k : ℕ × List Value) (es : List ((ℕ × List Value) × X)) → AllByRecursion P es → IfSome (find ref_cmp k es) (λ x. P (k, x))
all_find P k [] all = tt
all_find P k (e ∷ es) all =
    elim (is_eq (ref_cmp k e.0)) as (λ b. is_eq (ref_cmp k e.0) ≡ b → IfSome (cond b (Some e.1) (find ref_cmp k es)) (λ x. P (k, x)))
    [ true ↦ λ same. subst (λ q. P (q, e.1)) (sym (ref_cmp-exact k e.0 (is_Equal _ same))) all.0 | false ↦ λ differs. all_find P k es all.1 ] refl

-- ---- the rows that a transaction sees

module _ (declared : List TableDef) where
  abbrev pub Stands : (ℕ × List Value) × Seen → Type 0
  Stands e = StandsIn declared e.0 e.1.row

  abbrev pub OwnStands : (ℕ × List Value) × Option (List Value) → Type 0
  OwnStands e = IfSome e.1 (StandsIn declared e.0)

  module _ (table : ℕ) (def : TableDef) (here : slice_get declared table ≡ Some def) where
    abbrev Under : List Value → List Value → Type 0
    Under key row = RowFits def row × (key_of_row def row ≡ key)

    at_def : (ref : ℕ × List Value) (row : List Value) → table ≡ ref.0 → StandsIn declared ref row → Under ref.1 row
    at_def ref row same stands = subst (λ d. IsSomeAnd d (λ def. RowFits def row × (key_of_row def row ≡ ref.1))) (ap (slice_get declared) (sym same) ∙ here) stands

    all_read : (read : Read) (es : List ((ℕ × List Value) × Seen)) → read_table read ≡ table → AllByRecursion Stands es
        → AllByRecursion (λ seen. RowFits def seen.row × (covers_row def read seen.row ≡ true)) (rows_among def read es)
    all_read read [] is all = tt
    all_read read (e ∷ es) is all =
        elim (is_read def read e)
        as (λ b. is_read def read e ≡ b → AllByRecursion (λ seen. RowFits def seen.row × (covers_row def read seen.row ≡ true)) (map (λ e. e.1) (cond b (e ∷ filter (is_read def read) es) (filter (is_read def read) es)))) [
          | true ↦ λ reads.
              let same : read_table read ≡ e.0.0 = eqb-true (read_table read) e.0.0 (first_true (read_table read == e.0.0) _ reads) in
              (((at_def e.0 e.1.row (sym is ∙ same) all.0).0, second_true (read_table read == e.0.0) _ reads), all_read read es is all.1)
          | false ↦ λ leaves. all_read read es is all.1
        ] refl

    -- at a point: rows that fit and have the key
    own_row : (key : List Value) (own : Option (Option (List Value))) (seens : List Seen) → IfSome own (λ left. IfSome left (StandsIn declared (table, key)))
        → AllByRecursion (λ seen. RowFits def seen.row × (covers_row def (Point table key) seen.row ≡ true)) seens → AllByRecursion (Under key) (option_to_list (unwrap_or own (first_row seens)))
    own_row key (Some (Some row)) seens stands all = (at_def (table, key) row refl stands, tt)
    own_row key (Some None) seens stands all = tt
    own_row key None [] stands all = tt
    own_row key None (seen ∷ rest) stands all = ((all.0.0, same_key (key_of_row def seen.row) key all.0.1), tt)

    pub point_rows : (key : List Value) (own : Own) (S : Tables) → AllByRecursion OwnStands (finite.entries own) → AllByRecursion Stands (finite.entries S)
        → AllByRecursion (Under key) (merged def (Point table key) own (rows def (Point table key) S))
    point_rows key own S owns all =
        own_row key (finite.get own (table, key)) (rows def (Point table key) S)
        (rw (finite.get-entries own (table, key)) (all_find OwnStands (table, key) (finite.entries own) owns))
        (all_read (Point table key) (finite.entries S) refl all)

    -- at a span: rows that fit
    abbrev Kept : Keyed → Type 0
    Kept kept = AllByRecursion (λ e. RowFits def e.1) kept

    all_keyed : (read : Read) (seens : List Seen) → AllByRecursion (λ seen. RowFits def seen.row × (covers_row def read seen.row ≡ true)) seens → Kept (keyed def seens)
    all_keyed read [] all = tt
    all_keyed read (seen ∷ rest) all = (all.0.0, all_keyed read rest all.1)

    all_set : (kept : Keyed) (key : List Value) (row : Option (List Value)) → Kept kept → IfSome row (RowFits def) → Kept (set_row kept key row)
    all_set kept key None all fits = all_where key_cmp (RowFits def) (λ k. not (eq_by_cmp key_cmp key k)) kept all
    all_set kept key (Some row) all fits = all_put_value key_cmp (RowFits def) key row kept all fits

    covered_fits : (read : Read) (ref : ℕ × List Value) (row : Option (List Value)) → table ≡ ref.0 → IfSome row (StandsIn declared ref) → IfSome (covered def read row) (RowFits def)
    covered_fits read ref None same stands = tt
    covered_fits read ref (Some row) same stands =
        elim (covers_row def read row) as (λ b. IfSome (cond b (Some row) None) (RowFits def)) [ true ↦ (at_def ref row same stands).0 | false ↦ tt ]

    all_laid : (read : Read) (kept : Keyed) (es : List ((ℕ × List Value) × Option (List Value))) → read_table read ≡ table → Kept kept → AllByRecursion OwnStands es → Kept (lay_all def read kept es)
    all_laid read kept [] is all owns = all
    all_laid read kept (e ∷ es) is all owns = all_laid read (lay def read kept e) es is
        (elim (read_table read == e.0.0) as (λ b. (read_table read == e.0.0) ≡ b → Kept (cond b (set_row kept e.0.1 (covered def read e.1)) kept)) [
          | true ↦ λ same. all_set kept e.0.1 (covered def read e.1) all (covered_fits read e.0 e.1 (sym is ∙ eqb-true (read_table read) e.0.0 same) owns.0)
          | false ↦ λ differs. all
        ] refl) owns.1

    all_rows : (kept : Keyed) → Kept kept → AllByRecursion (RowFits def) (map (λ e. e.1) kept)
    all_rows [] all = tt
    all_rows (e ∷ es) all = (all.0, all_rows es all.1)

    pub span_rows : (column : ℕ) (low high : Option Value) (own : Own) (S : Tables) → AllByRecursion OwnStands (finite.entries own) → AllByRecursion Stands (finite.entries S)
        → AllByRecursion (RowFits def) (merged def (Span table column low high) own (rows def (Span table column low high) S))
    span_rows column low high own S owns all =
        all_rows _ (all_laid (Span table column low high) (keyed def (rows def (Span table column low high) S)) (finite.entries own) refl
        (all_keyed (Span table column low high) (rows def (Span table column low high) S) (all_read (Span table column low high) (finite.entries S) refl all)) owns)

    -- what is written under its key stands there
    pub own_put : (own : Own) (key : List Value) (row : Option (List Value)) → AllByRecursion OwnStands (finite.entries own) → IfSome row (Under key) → AllByRecursion OwnStands (finite.entries (finite.insert own (table, key) row))
    own_put own key row owns under =
        rw (finite.entries-insert ref_cmp-total own (table, key) row) (all_put OwnStands (table, key) row (finite.entries own) owns (stands row under))
      where
        stands : (row : Option (List Value)) → IfSome row (Under key) → IfSome row (StandsIn declared (table, key))
        stands None under = tt
        stands (Some row) under = rw here under
