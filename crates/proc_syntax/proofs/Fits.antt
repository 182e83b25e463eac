-- What the tests of kinds say.
use Rattle.std.proofs.Common.{◌≡◌, subst, ℕ, pos, refl, sym, ap, ◌∙◌, List, [], ◌∷◌, true, false, cond, map, Option, Some, None, IfSome, ◌&&◌, ◌==◌, Contains}
use Rattle.std.specs.Prelude.{slice_index_or}
use Rattle.std.specs.Cmp.Derive.{both_true}
use Rattle.std.specs.List.{list_any}
use Rattle.std.proofs.Math.ListN.{get_or-map}
use Rattle.std.proofs.lemmas.Bool.{eqb-true}
use Rattle.std.proofs.lemmas.Map.Views.{Contains-from_any}
use Rattle.rel_base.specs.declared.access.Read.TheVariants.{Point, Span}
use Rattle.rel_base.specs.declared.schema.TableDef.{TableDef}
use Rattle.rel_base.specs.declared.value.Kind.{Kind}
use Rattle.rel_base.specs.declared.value.Kind.TheVariants as kind
use Rattle.rel_base.specs.declared.value.Value.{Value}
use Rattle.rel_base.specs.declared.value.Value.TheVariants as value
use Rattle.rel_base.specs.Access.{read_table, ReadFits}
use Rattle.rel_base.specs.Row.{value_at}
use Rattle.rel_base.specs.Schema.{kind_at, span_columns, RowFits, KeyFits, key_of_row}
use Rattle.rel_base.specs.Value.{kind_of, key_eq}
use Rattle.rel_base.proofs.Bits.{first_true, second_true}
use Rattle.rel_base.proofs.KeyOrder.{same_key}
use Rattle.proc_syntax.specs.Meaning.{point_of, span_of, end_has, row_fits, key_for, row_under}
use Rattle.proc_syntax.specs.Values.{has_kind, have_kinds}

pub kind_holds : (k : Kind) (v : Value) → has_kind k v ≡ true → kind_of v ≡ k
kind_holds kind.Int (value.Int n) h = refl
kind_holds kind.Int (value.Text t) h = cc
kind_holds kind.Int (value.Bool b) h = cc
kind_holds kind.Int (value.Bytes b) h = cc
kind_holds kind.Text (value.Int n) h = cc
kind_holds kind.Text (value.Text t) h = refl
kind_holds kind.Text (value.Bool b) h = cc
kind_holds kind.Text (value.Bytes b) h = cc
kind_holds kind.Bool (value.Int n) h = cc
kind_holds kind.Bool (value.Text t) h = cc
kind_holds kind.Bool (value.Bool b) h = refl
kind_holds kind.Bool (value.Bytes b) h = cc
kind_holds kind.Bytes (value.Int n) h = cc
kind_holds kind.Bytes (value.Text t) h = cc
kind_holds kind.Bytes (value.Bool b) h = cc
kind_holds kind.Bytes (value.Bytes b) h = refl

pub kinds_hold : (ks : List Kind) (vs : List Value) → have_kinds ks vs ≡ true → map kind_of vs ≡ ks
kinds_hold [] [] h = refl
kinds_hold [] (v ∷ vs) h = cc
kinds_hold (k ∷ ks) [] h = cc
kinds_hold (k ∷ ks) (v ∷ vs) h =
    ap (λ x. x ∷ map kind_of vs) (kind_holds k v (first_true _ _ h)) ∙ ap (λ xs. k ∷ xs) (kinds_hold ks vs (second_true (has_kind k v) _ h))

-- a value has its own kind
pub own_kind : (v : Value) → has_kind (kind_of v) v ≡ true
own_kind (value.Int n) = refl
own_kind (value.Text t) = refl
own_kind (value.Bool b) = refl
own_kind (value.Bytes b) = refl

own_kinds : (vs : List Value) → have_kinds (map kind_of vs) vs ≡ true
own_kinds [] = refl
own_kinds (v ∷ vs) = both_true (own_kind v) (own_kinds vs)

pub kinds_held : (ks : List Kind) (vs : List Value) → map kind_of vs ≡ ks → have_kinds ks vs ≡ true
kinds_held ks vs e = subst (λ ks. have_kinds ks vs ≡ true) e (own_kinds vs)

-- the key of a row that fits fits
pub key_of_fit : (def : TableDef) (row : List Value) → RowFits def row → KeyFits def (key_of_row def row)
key_of_fit def row fits = kinds def.key
  where
    kinds : (columns : List ℕ) → map kind_of (map (value_at row) columns) ≡ map (kind_at def) columns
    kinds [] = refl
    kinds (column ∷ rest) =
        ap (λ k. k ∷ map kind_of (map (value_at row) rest)) (sym (get_or-map kind_of row column (value.Int (pos 0))) ∙ ap (λ ks. slice_index_or ks column kind.Int) fits)
        ∙ ap (λ ks. kind_at def column ∷ ks) (kinds rest)

pub point_fits : (def : TableDef) (table : ℕ) (key : List Value) → IfSome (point_of def table key) (λ read. (read ≡ Point table key) × KeyFits def key)
point_fits def table key =
    elim (have_kinds (map (kind_at def) def.key) key)
    as (λ b. have_kinds (map (kind_at def) def.key) key ≡ b → IfSome (cond b (Some (Point table key)) None) (λ read. (read ≡ Point table key) × KeyFits def key))
    [ true ↦ λ h. (refl, kinds_hold _ _ h) | false ↦ λ h. tt ] refl

end_fits : (k : Kind) (end : Option Value) → end_has k end ≡ true → IfSome end (λ v. kind_of v ≡ k)
end_fits k None h = tt
end_fits k (Some v) h = kind_holds k v h

is_in : (columns : List ℕ) (column : ℕ) → list_any (λ c. c == column) columns ≡ true → Contains columns column
is_in columns column h = Contains-from_any {eq = λ a b. b == a} (λ a b same. sym (eqb-true b a same)) column columns h

pub span_fits : (def : TableDef) (table : ℕ) (column : Option ℕ) (low high : Option Value) → IfSome (span_of def table column low high) (λ read. (read_table read ≡ table) × ReadFits def read)
span_fits def table None low high = tt
span_fits def table (Some column) low high =
    elim (list_any (λ c. c == column) (span_columns def) && (end_has (kind_at def column) low && end_has (kind_at def column) high))
    as (λ b. (list_any (λ c. c == column) (span_columns def) && (end_has (kind_at def column) low && end_has (kind_at def column) high)) ≡ b
    → IfSome (cond b (Some (Span table column low high)) None) (λ read. (read_table read ≡ table) × ReadFits def read)) [
      | true ↦ λ h.
          let ends = second_true (list_any (λ c. c == column) (span_columns def)) _ h in
          (refl, (is_in (span_columns def) column (first_true _ _ h), end_fits _ low (first_true _ _ ends), end_fits _ high (second_true (end_has (kind_at def column) low) _ ends)))
      | false ↦ λ h. tt
    ] refl

pub key_fits : (def : TableDef) (row : List Value) → IfSome (key_for def row) (λ key. RowFits def row × (key_of_row def row ≡ key))
key_fits def row =
    elim (row_fits def row) as (λ b. row_fits def row ≡ b → IfSome (cond b (Some (key_of_row def row)) None) (λ key. RowFits def row × (key_of_row def row ≡ key)))
    [ true ↦ λ h. (kinds_hold _ _ h, refl) | false ↦ λ h. tt ] refl

pub under_fits : (def : TableDef) (key row : List Value) → IfSome (row_under def key row) (λ new. RowFits def new × (key_of_row def new ≡ key))
under_fits def key row =
    elim (row_fits def row && key_eq (key_of_row def row) key)
    as (λ b. (row_fits def row && key_eq (key_of_row def row) key) ≡ b → IfSome (cond b (Some row) None) (λ new. RowFits def new × (key_of_row def new ≡ key))) [
      | true ↦ λ h. (kinds_hold _ _ (first_true _ _ h), same_key _ _ (second_true (row_fits def row) _ h))
      | false ↦ λ h. tt
    ] refl
