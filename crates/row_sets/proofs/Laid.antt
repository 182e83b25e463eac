-- Own writes of one table, laid over the rows of a read of the table.
use Rattle.std.proofs.Common.{◌≡◌, ◌∙◌, ℕ, List, [], ◌∷◌, ◌++◌, true, false, cond, ◌==◌, Option, Some, None, refl, ap, sym, subst, map}
use Rattle.std.specs.BTreeMap.{is_at}
use Rattle.std.specs.Map.{lookup}
use Rattle.std.specs.List.Sorted.{IsStrictlySortedBy}
use Rattle.std.specs.Cmp.{eq_by_cmp_equiv, nat_cmp_total}
use Rattle.std.specs.Ordering.{nat_cmp, is_eq}
use Rattle.std.specs.FinMap.{FinMap, entries, from_entries, nat_cmp-IsAntisymmetric}
use Rattle.std.proofs.lemmas.Bool.Decides.{Decides-eqb}
use Rattle.std.proofs.lemmas.List.{map-append}
use Rattle.rel_base.specs.declared.access.Read.{Read}
use Rattle.rel_base.specs.declared.access.Read.TheVariants.{Span}
use Rattle.rel_base.specs.declared.access.Seen.{Seen}
use Rattle.rel_base.specs.declared.schema.TableDef.{TableDef}
use Rattle.rel_base.specs.declared.value.Value.{Value}
use Rattle.rel_base.specs.Access.{read_table}
use Rattle.rel_base.specs.OwnWrites.{Keyed, covered, keyed, lay_all, merged, set_row}
use Rattle.rel_base.specs.Tables.{ref_cmp}
use Rattle.rel_base.specs.Value.{key_cmp}
use Rattle.rel_base.proofs.Bits.{is_Equal, no_both, not_true}
use Rattle.row_sets.specs.Overlay.{flat, in_table, lay_keys, left, own_of}
use Rattle.row_sets.specs.declared.table_writes.OwnWrite.{OwnWrite}
use Rattle.row_sets.proofs.Flat.{Rising, absent, entries_flat}
use Rattle.row_sets.proofs.Owns.{entries_own}

module _ (def : TableDef) (read : Read) where
  abbrev table : ℕ
  table = read_table read

  abbrev Lefts : Type 0
  Lefts = List ((ℕ × List Value) × Option (List Value))

  -- those of the table of the read are laid
  lay_same : (rows : Keyed) (es : List (List Value × OwnWrite)) (more : Lefts) → lay_all def read rows (map left (in_table table es) ++ more) ≡ lay_all def read (lay_keys def read rows es) more
  lay_same rows [] more = refl
  lay_same rows (e ∷ es) more =
      ap (λ b. lay_all def read (cond b (set_row rows e.0 (covered def read e.1.after)) rows) (map left (in_table table es) ++ more)) ((Decides-eqb table table).1 refl)
      ∙ lay_same (set_row rows e.0 (covered def read e.1.after)) es more

  -- and those of others are passed over
  lay_other : (rows : Keyed) (other : ℕ) (es : List (List Value × OwnWrite)) (more : Lefts) → (table == other) ≡ false → lay_all def read rows (map left (in_table other es) ++ more) ≡ lay_all def read rows more
  lay_other rows other [] more apart = refl
  lay_other rows other (e ∷ es) more apart =
      ap (λ b. lay_all def read (cond b (set_row rows e.0 (covered def read e.1.after)) rows) (map left (in_table other es) ++ more)) apart ∙ lay_other rows other es more apart

  -- what the own writes of a table that may be there do to rows
  abbrev pub lay_in : Keyed → Option (FinMap key_cmp OwnWrite) → Keyed
  lay_in rows None = rows
  lay_in rows (Some own) = lay_keys def read rows (entries own)

  lay_flat : (tables : List (ℕ × FinMap key_cmp OwnWrite)) → Rising tables → (rows : Keyed) → lay_all def read rows (map left (flat tables)) ≡ lay_in rows (lookup (is_at (nat_cmp table)) tables)
  unfolding IsStrictlySortedBy
  lay_flat [] rise rows = refl
  lay_flat (own ∷ rest) rise rows =
      ap (lay_all def read rows) (map-append left (in_table own.0 (entries own.1)) (flat rest))
      ∙ elim (is_at (nat_cmp table) own.0)
      as (λ b. is_at (nat_cmp table) own.0 ≡ b → lay_all def read rows (map left (in_table own.0 (entries own.1)) ++ map left (flat rest)) ≡ lay_in rows (cond b (Some own.1) (lookup (is_at (nat_cmp table)) rest))) [
        | true ↦ λ tied.
            let same : table ≡ own.0 = nat_cmp-IsAntisymmetric table own.0 (is_Equal (nat_cmp table own.0) tied) in
            let none : lookup (is_at (nat_cmp table)) rest ≡ None = ap (λ n. lookup (is_at (nat_cmp n)) rest) same ∙ absent own.0 rest rise.0 in
            ap (λ n. lay_all def read rows (map left (in_table n (entries own.1)) ++ map left (flat rest))) (sym same)
            ∙ lay_same rows (entries own.1) (map left (flat rest))
            ∙ lay_flat rest rise.1 (lay_keys def read rows (entries own.1))
            ∙ ap (lay_in (lay_keys def read rows (entries own.1))) none
        | false ↦ λ apart.
            let other : (table == own.0) ≡ false = not_true (table == own.0) (λ one. no_both (is_at (nat_cmp table) own.0) (tied_at one) apart) in
            lay_other rows own.0 (entries own.1) (map left (flat rest)) other ∙ lay_flat rest rise.1 rows
      ] refl
    where
      itself : is_eq (nat_cmp table table) ≡ true
      itself = (eq_by_cmp_equiv nat_cmp_total).refl table

      tied_at : (table == own.0) ≡ true → is_eq (nat_cmp table own.0) ≡ true
      tied_at one = subst (λ n. is_eq (nat_cmp table n) ≡ true) ((Decides-eqb table own.0).0 one) itself

  -- what all own writes do to rows
  pub lay_own : (tables : List (ℕ × FinMap key_cmp OwnWrite)) → Rising tables → (rows : Keyed) → lay_all def read rows (entries (own_of (from_entries {R = ref_cmp} (flat tables)))) ≡ lay_in rows (lookup (is_at (nat_cmp table)) tables)
  lay_own tables rise rows = ap (lay_all def read rows) (entries_own (from_entries {R = ref_cmp} (flat tables)) ∙ ap (map left) (entries_flat tables rise)) ∙ lay_flat tables rise rows

-- the rows that the transaction sees at a span, by the own writes of its table
pub merged_span : (def : TableDef) (tables : List (ℕ × FinMap key_cmp OwnWrite)) → Rising tables → (table column : ℕ) (low high : Option Value) (seens : List Seen)
    → merged def (Span table column low high) (own_of (from_entries {R = ref_cmp} (flat tables))) seens
    ≡ map (λ e. e.1) (lay_in def (Span table column low high) (keyed def seens) (lookup (is_at (nat_cmp table)) tables))
merged_span def tables rise table column low high seens = ap (map (λ e. e.1)) (lay_own def (Span table column low high) tables rise (keyed def seens))
