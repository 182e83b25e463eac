-- The row that a point gets is the one at its key.
use Rattle.std.proofs.Common.{◌≡◌, ◌∙◌, ℕ, List, [], ◌∷◌, true, false, ◌&&◌, ◌==◌, cond, Option, Some, None, refl, ap, sym, subst, T, All, map, option_to_list, slice_get}
use Rattle.std.specs.List.{filter}
use Rattle.std.specs.Option.{IsSomeAnd}
use Rattle.std.specs.Ordering.{eq_by_cmp, is_eq}
use Rattle.std.specs.Cmp.{eq_by_cmp_equiv}
use Rattle.std.specs.FinMap.{entries, entries_sorted, get, get-entries}
use Rattle.std.specs.FinMap.Entries.{below_all, find, is_sorted}
use Rattle.std.proofs.lemmas.List.Elements.{All-head, All-tail}
use Rattle.std.proofs.lemmas.Bool.Decides.{Decides-eqb}
use Rattle.rel_base.specs.declared.access.Read.TheVariants.{Point}
use Rattle.rel_base.specs.declared.access.Seen.{Seen}
use Rattle.rel_base.specs.declared.schema.TableDef.{TableDef}
use Rattle.rel_base.specs.declared.value.Value.{Value}
use Rattle.rel_base.specs.Access.{ReadFits}
use Rattle.rel_base.specs.Among.{ReadFitsIn, rows_by, rows_in}
use Rattle.rel_base.specs.Schema.{key_of_row}
use Rattle.rel_base.specs.Tables.{HistoryFits, Stamped, is_read, ref_cmp, ref_cmp-exact, tables_at}
use Rattle.rel_base.specs.Value.{key_cmp, key_cmp-total, key_eq}
use Rattle.rel_base.proofs.Bits.{first, is_Equal, second}
use Rattle.rel_base.proofs.KeyOrder.{Stands, all_stand}
use Rattle.row_sets.proofs.Entries.{not_found}
use Rattle.row_sets.proofs.Histories.{same_parts}

module _ (def : TableDef) (table : ℕ) (key : List Value) where
  -- a row that stands under its key is read where the key is that of the point
  same_test : (e : (ℕ × List Value) × Seen) → Stands def table e → is_read def (Point table key) e ≡ eq_by_cmp ref_cmp (table, key) e.0
  same_test e stands =
      elim (table == e.0.0) as (λ b. (table == e.0.0) ≡ b → (b && key_eq (key_of_row def e.1.row) key) ≡ eq_by_cmp ref_cmp (table, key) e.0) [
        | true ↦ λ same.
            let own : key_of_row def e.1.row ≡ e.0.1 = (stands (sym ((Decides-eqb table e.0.0).0 same))).1 in
            ap (λ k. key_eq k key) own ∙ (eq_by_cmp_equiv key_cmp-total).symm e.0.1 key
            ∙ sym (same_parts table e.0.0 (key_cmp key e.0.1) ∙ ap (λ b. b && is_eq (key_cmp key e.0.1)) same)
        | false ↦ λ other. sym (same_parts table e.0.0 (key_cmp key e.0.1) ∙ ap (λ b. b && is_eq (key_cmp key e.0.1)) other)
      ] refl

  -- so it gets what is found at its key
  point_found : (es : List ((ℕ × List Value) × Seen)) → T (is_sorted ref_cmp es) → All (Stands def table) es
      → map (λ e. e.1) (filter (is_read def (Point table key)) es) ≡ option_to_list (find ref_cmp (table, key) es)
  point_found [] up stand = refl
  point_found (e ∷ es) up stand =
      let rest = point_found es (second (below_all ref_cmp e.0 es) _ up) (All-tail (Stands def table) e es stand) in
      let same = same_test e (All-head (Stands def table) e es stand) in
      elim (eq_by_cmp ref_cmp (table, key) e.0) as (λ t. eq_by_cmp ref_cmp (table, key) e.0 ≡ t
      → map (λ f. f.1) (cond (is_read def (Point table key) e) (e ∷ filter (is_read def (Point table key)) es) (filter (is_read def (Point table key)) es))
      ≡ option_to_list (cond t (Some e.1) (find ref_cmp (table, key) es))) [
        | true ↦ λ tied.
            let at_entry : (table, key) ≡ e.0 = ref_cmp-exact (table, key) e.0 (is_Equal (ref_cmp (table, key) e.0) tied) in
            let gone : find ref_cmp (table, key) es ≡ None = not_found ref_cmp (table, key) es (subst (λ k. T (below_all ref_cmp k es)) (sym at_entry) (first _ _ up)) in
            ap (λ b. map (λ f. f.1) (cond b (e ∷ filter (is_read def (Point table key)) es) (filter (is_read def (Point table key)) es))) (same ∙ tied)
            ∙ ap (λ seens. e.1 ∷ seens) (rest ∙ ap option_to_list gone)
        | false ↦ λ apart.
            ap (λ b. map (λ f. f.1) (cond b (e ∷ filter (is_read def (Point table key)) es) (filter (is_read def (Point table key)) es))) (same ∙ apart) ∙ rest
      ] refl

-- the row at the key of a point, where there is one, is all that the point gets
pub point_got : (defs : List TableDef) (table : ℕ) (key : List Value) (height : ℕ) (history : List Stamped) → HistoryFits defs history → ReadFitsIn defs (Point table key)
    → option_to_list (get (tables_at height history) (table, key)) ≡ rows_in defs (Point table key) (tables_at height history)
point_got defs table key height history fits asked = go (slice_get defs table) refl asked
  where
    go : (found : Option TableDef) → slice_get defs table ≡ found → IsSomeAnd found (λ def. ReadFits def (Point table key))
        → option_to_list (get (tables_at height history) (table, key)) ≡ rows_by found (Point table key) (tables_at height history)
    go None is asked_of = absurd asked_of
    go (Some def) is asked_of =
        let tables = tables_at height history in
        ap option_to_list (get-entries tables (table, key))
        ∙ sym (point_found def table key (entries tables) (entries_sorted tables) (all_stand def table defs is height history fits))
