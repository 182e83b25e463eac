-- The read of a source leaves out no row with which the comparisons hold, and fits its table.
use Rattle.std.proofs.Common.{◌≡◌, ◌<◌, ℕ, List, [], ◌∷◌, ◌++◌, map, take, Bool, true, false, cond, not, ◌&&◌, ◌||◌, ◌==◌, nat_lt, length, ◌+◌, Option, Some, None, Contains, IfSome, slice_get, refl, sym, ap, subst, ◌∙◌, arith}
use Rattle.std.specs.declared.cmp.Ordering.{Ordering}
use Rattle.std.specs.declared.cmp.Ordering.TheVariants.{Less, Equal, Greater}
use Rattle.std.specs.Ordering.{is_eq, is_le, is_ge, ordering_reverse}
use Rattle.std.specs.Prelude.{IsSomeAnd}
use Rattle.std.proofs.lemmas.Bool.{and_from, and_parts, eqb-true, lt-ltb, ltb-true}
use Rattle.std.proofs.lemmas.Option.{cond_some, same_Some}
use Rattle.rel_base.specs.Access.{ReadFits, covers_row, read_table}
use Rattle.rel_base.specs.Among.{ReadFitsIn}
use Rattle.rel_base.specs.Row.{is_from, is_up_to, value_at}
use Rattle.rel_base.specs.Schema.{kind_at}
use Rattle.rel_base.specs.Value.{key_cmp, key_cmp-total, key_eq, kind_of, value_cmp, value_cmp-exact, value_cmp-total}
use Rattle.rel_base.specs.declared.access.Seen.{Seen}
use Rattle.rel_base.specs.declared.schema.TableDef.{TableDef}
use Rattle.rel_base.specs.declared.value.Kind.{Kind}
use Rattle.rel_base.specs.declared.value.Kind.TheVariants as kind
use Rattle.rel_base.specs.declared.value.Value.{Value}
use Rattle.rel_base.specs.declared.value.Value.TheVariants as value
use Rattle.query_plan.proofs.Extends.{side_more}
use Rattle.query_plan.specs.Reads.{bounds, end_of, fit_end, fitting, has_kind, is_column, is_given, is_some_column, key_ends, point_or, put_first, read_by, serves, whole_by}
use Rattle.query_plan.specs.Fits.{AccessFits}
use Rattle.query_plan.specs.Tuples.{at, field_of, field_of_some, holds, relates, side_at}
use Rattle.query_plan.specs.Walk.{IsReadOf, IsWide, covers_by, holds_so_far}
use Rattle.query_plan.specs.Ready.{is_ready, is_side_ready}
use Rattle.query_plan.specs.declared.access.Access.{Access}
use Rattle.query_plan.specs.declared.access.Access.TheVariants as access
use Rattle.query_plan.specs.declared.access.Bound.{Bound}
use Rattle.query_plan.specs.declared.access.Bound.TheVariants.{Exact, Low, High}
use Rattle.query_plan.specs.declared.select.Col.{Col}
use Rattle.query_plan.specs.declared.select.Comparison.{Comparison}
use Rattle.query_plan.specs.declared.select.Field.{Field}
use Rattle.query_plan.specs.declared.select.Field.TheVariants.{Column, Block, Pos}
use Rattle.query_plan.specs.declared.select.Relation.{Relation}
use Rattle.query_plan.specs.declared.select.Relation.TheVariants as relation
use Rattle.query_plan.specs.declared.select.Side.{Side}
use Rattle.query_plan.specs.declared.select.Side.TheVariants.{Field as Other, Given}

-- ---- orders

abbrev meets : Bound → Ordering → Bool
meets Exact o = is_eq o
meets Low o = is_ge o
meets High o = is_le o

served : (bound : Bound) (r : Relation) (o : Ordering) → serves bound r ≡ true → relates r o ≡ true → meets bound o ≡ true
served Exact relation.Equal Less s h = cc
served Exact relation.Equal Equal s h = refl
served Exact relation.Equal Greater s h = cc
served Exact relation.NotEqual o s h = cc
served Exact relation.Less o s h = cc
served Exact relation.LessOrEqual o s h = cc
served Exact relation.Greater o s h = cc
served Exact relation.GreaterOrEqual o s h = cc
served Low relation.Equal Less s h = cc
served Low relation.Equal Equal s h = refl
served Low relation.Equal Greater s h = refl
served Low relation.NotEqual o s h = cc
served Low relation.Less o s h = cc
served Low relation.LessOrEqual o s h = cc
served Low relation.Greater Less s h = cc
served Low relation.Greater Equal s h = refl
served Low relation.Greater Greater s h = refl
served Low relation.GreaterOrEqual Less s h = cc
served Low relation.GreaterOrEqual Equal s h = refl
served Low relation.GreaterOrEqual Greater s h = refl
served High relation.Equal Less s h = refl
served High relation.Equal Equal s h = refl
served High relation.Equal Greater s h = cc
served High relation.NotEqual o s h = cc
served High relation.Less Less s h = refl
served High relation.Less Equal s h = refl
served High relation.Less Greater s h = cc
served High relation.LessOrEqual Less s h = refl
served High relation.LessOrEqual Equal s h = refl
served High relation.LessOrEqual Greater s h = cc
served High relation.Greater o s h = cc
served High relation.GreaterOrEqual o s h = cc

equal_is : (o : Ordering) → is_eq o ≡ true → o ≡ Equal
equal_is Less e = cc
equal_is Equal e = refl
equal_is Greater e = cc

own_order : (o : Ordering) → o ≡ ordering_reverse o → is_eq o ≡ true
own_order Less e = cc
own_order Equal e = refl
own_order Greater e = cc

turned : (o : Ordering) → is_ge o ≡ true → is_le (ordering_reverse o) ≡ true
turned Less e = cc
turned Equal e = refl
turned Greater e = refl

key_same : (key : List Value) → key_eq key key ≡ true
key_same key = own_order (key_cmp key key) (key_cmp-total.antisymm key key)

kind_is : (k : Kind) (v : Value) → has_kind k v ≡ true → kind_of v ≡ k
kind_is kind.Int (value.Int n) e = refl
kind_is kind.Int (value.Text t) e = cc
kind_is kind.Int (value.Bool b) e = cc
kind_is kind.Int (value.Bytes y) e = cc
kind_is kind.Text (value.Int n) e = cc
kind_is kind.Text (value.Text t) e = refl
kind_is kind.Text (value.Bool b) e = cc
kind_is kind.Text (value.Bytes y) e = cc
kind_is kind.Bool (value.Int n) e = cc
kind_is kind.Bool (value.Text t) e = cc
kind_is kind.Bool (value.Bool b) e = refl
kind_is kind.Bool (value.Bytes y) e = cc
kind_is kind.Bytes (value.Int n) e = cc
kind_is kind.Bytes (value.Text t) e = cc
kind_is kind.Bytes (value.Bool b) e = cc
kind_is kind.Bytes (value.Bytes y) e = refl

-- ---- what one comparison tells of a row

field_is : (row : Seen) (field : Field) (column : ℕ) → is_column column field ≡ true → field_of row field ≡ value_at row.row column
field_is row (Column other) column e = ap (value_at row.row) (sym (eqb-true column other e))
field_is row Block column e = cc
field_is row Pos column e = cc

last_get : (prefix : List Seen) (row : Seen) → slice_get (prefix ++ row ∷ []) (length prefix) ≡ Some row
last_get [] row = refl
last_get (x ∷ prefix) row = last_get prefix row

at_last : (prefix : List Seen) (row : Seen) (col : Col) → (length prefix == col.source) ≡ true → at (prefix ++ row ∷ []) col ≡ field_of row col.field
at_last prefix row col e =
    ap (λ n. field_of_some (slice_get (prefix ++ row ∷ []) n) col.field) (sym (eqb-true (length prefix) col.source e))
    ∙ ap (λ s. field_of_some s col.field) (last_get prefix row)

ready_more : (count : ℕ) (side : Side) → is_side_ready count side ≡ true → is_side_ready (count + 1) side ≡ true
ready_more count (Other col) e = let below : col.source < count = ltb-true col.source count e in lt-ltb col.source (count + 1) (omega arith)
ready_more count (Given v) e = refl

given_ready : (count : ℕ) (side : Side) → is_given count side ≡ true → is_side_ready count side ≡ true
given_ready count (Other col) e = (and_parts (nat_lt col.source count) (is_some_column col.field) e).0
given_ready count (Given v) e = refl

tested_one : (ready here : Bool) → ready ≡ true → (not ready || here) ≡ true → here ≡ true
tested_one true here e h = h
tested_one false here e h = cc

module _ (prefix : List Seen) (row : Seen) where
  given_by : (c : Comparison) (column : ℕ) (bound : Bound) → bounds (length prefix) column bound c ≡ true →
      (not (is_ready (length prefix + 1) c) || holds (prefix ++ row ∷ []) c) ≡ true → (v : Value) → side_at prefix c.right ≡ v → meets bound (value_cmp (value_at row.row column) v) ≡ true
  given_by c column bound is test v e =
      let one = and_parts (length prefix == c.left.source) (is_column column c.left.field && (serves bound c.relation && is_given (length prefix) c.right)) is in
      let two = and_parts (is_column column c.left.field) (serves bound c.relation && is_given (length prefix) c.right) one.1 in
      let three = and_parts (serves bound c.relation) (is_given (length prefix) c.right) two.1 in
      let side = given_ready (length prefix) c.right three.1 in
      let here : length prefix ≡ c.left.source = eqb-true (length prefix) c.left.source one.0 in
      let ready : is_ready (length prefix + 1) c ≡ true =
      and_from (nat_lt c.left.source (length prefix + 1)) (is_side_ready (length prefix + 1) c.right) (lt-ltb c.left.source (length prefix + 1) (omega arith)) (ready_more (length prefix) c.right side) in
      let left : at (prefix ++ row ∷ []) c.left ≡ value_at row.row column = at_last prefix row c.left one.0 ∙ field_is row c.left.field column two.0 in
      let right : side_at (prefix ++ row ∷ []) c.right ≡ v = side_more prefix (row ∷ []) c.right side ∙ e in
      let same : holds (prefix ++ row ∷ []) c ≡ relates c.relation (value_cmp (value_at row.row column) v) =
      ap (λ a. relates c.relation (value_cmp a (side_at (prefix ++ row ∷ []) c.right))) left ∙ ap (λ b. relates c.relation (value_cmp (value_at row.row column) b)) right in
      served bound c.relation (value_cmp (value_at row.row column) v) three.0 (sym same ∙ tested_one (is_ready (length prefix + 1) c) (holds (prefix ++ row ∷ []) c) ready test)

  -- where the comparisons hold, the value of the row meets the bound
  end_met : (column : ℕ) (bound : Bound) (cs : List Comparison) → holds_so_far cs (length prefix + 1) (prefix ++ row ∷ []) ≡ true →
      (v : Value) → end_of cs prefix column bound ≡ Some v → meets bound (value_cmp (value_at row.row column) v) ≡ true
  end_met column bound [] h v e = cc
  end_met column bound (c ∷ cs) h v e =
      let parts = and_parts (not (is_ready (length prefix + 1) c) || holds (prefix ++ row ∷ []) c) (holds_so_far cs (length prefix + 1) (prefix ++ row ∷ [])) h in
      elim (bounds (length prefix) column bound c) as (λ b.
      bounds (length prefix) column bound c ≡ b → cond b (Some (side_at prefix c.right)) (end_of cs prefix column bound) ≡ Some v → meets bound (value_cmp (value_at row.row column) v) ≡ true
      ) [
        | true ↦ λ is found. given_by c column bound is parts.0 v (same_Some (side_at prefix c.right) v found)
        | false ↦ λ is found. end_met column bound cs parts.1 v found
      ] refl e

-- ---- what fits

fits_so : (k : Kind) (end : Option Value) (v : Value) → fitting k end ≡ Some v → (end ≡ Some v) × (has_kind k v ≡ true)
fits_so k None v e = cc
fits_so k (Some w) v e =
    let parts = cond_some (has_kind k w) w v e in
    (ap Some parts.1, subst (λ u. has_kind k u ≡ true) parts.1 parts.0)

put_parts : (end : Option Value) (rest : Option (List Value)) (key : List Value) → put_first end rest ≡ Some key →
    (v : Value) × (vs : List Value) × (end ≡ Some v) × (rest ≡ Some vs) × (v ∷ vs ≡ key)
put_parts None rest key e = cc
put_parts (Some v) None key e = cc
put_parts (Some v) (Some vs) key e = (v, vs, refl, refl, same_Some (v ∷ vs) key e)

module _ (def : TableDef) (cs : List Comparison) (prefix : List Seen) where
  key_kinds : (columns : List ℕ) (key : List Value) → key_ends def cs prefix columns ≡ Some key → map kind_of key ≡ map (kind_at def) columns
  key_kinds [] key e = ap (map kind_of) (sym (same_Some [] key e))
  key_kinds (column ∷ columns) key e =
      let parts = put_parts (fit_end def cs prefix Exact column) (key_ends def cs prefix columns) key e in
      let fit = fits_so (kind_at def column) (end_of cs prefix column Exact) parts.0 parts.2 in
      ap (map kind_of) (sym parts.4)
      ∙ ap (λ k. k ∷ map kind_of parts.1) (kind_is (kind_at def column) parts.0 fit.1)
      ∙ ap (λ ks. kind_at def column ∷ ks) (key_kinds columns parts.1 parts.3)

  key_met : (row : Seen) → holds_so_far cs (length prefix + 1) (prefix ++ row ∷ []) ≡ true → (columns : List ℕ) (key : List Value) → key_ends def cs prefix columns ≡ Some key →
      map (value_at row.row) columns ≡ key
  key_met row h [] key e = same_Some [] key e
  key_met row h (column ∷ columns) key e =
      let parts = put_parts (fit_end def cs prefix Exact column) (key_ends def cs prefix columns) key e in
      let fit = fits_so (kind_at def column) (end_of cs prefix column Exact) parts.0 parts.2 in
      ap (λ v. v ∷ map (value_at row.row) columns)
      (value_cmp-exact (value_at row.row column) parts.0 (equal_is (value_cmp (value_at row.row column) parts.0) (exactly (value_cmp (value_at row.row column) parts.0) (end_met prefix row column Exact cs h parts.0 fit.0))))
      ∙ ap (λ vs. parts.0 ∷ vs) (key_met row h columns parts.1 parts.3)
      ∙ parts.4
    where
      exactly : (o : Ordering) → meets Exact o ≡ true → is_eq o ≡ true
      exactly o e = e

  low_met : (row : Seen) → holds_so_far cs (length prefix + 1) (prefix ++ row ∷ []) ≡ true → (column : ℕ) (end : Option Value) → fit_end def cs prefix Low column ≡ end → is_from end (value_at row.row column) ≡ true
  low_met row h column None e = refl
  low_met row h column (Some v) e =
      let met = end_met prefix row column Low cs h v (fits_so (kind_at def column) (end_of cs prefix column Low) v e).0 in
      ap is_le (value_cmp-total.antisymm v (value_at row.row column)) ∙ turned (value_cmp (value_at row.row column) v) met

  high_met : (row : Seen) → holds_so_far cs (length prefix + 1) (prefix ++ row ∷ []) ≡ true → (column : ℕ) (end : Option Value) → fit_end def cs prefix High column ≡ end → is_up_to end (value_at row.row column) ≡ true
  high_met row h column None e = refl
  high_met row h column (Some v) e = end_met prefix row column High cs h v (fits_so (kind_at def column) (end_of cs prefix column High) v e).0

  end_kind : (bound : Bound) (column : ℕ) (end : Option Value) → fit_end def cs prefix bound column ≡ end → IfSome end (λ v. kind_of v ≡ kind_at def column)
  end_kind bound column None e = tt
  end_kind bound column (Some v) e = kind_is (kind_at def column) v (fits_so (kind_at def column) (end_of cs prefix column bound) v e).1

  -- ---- reads

  whole_covers : (table : ℕ) (row : List Value) (key : List ℕ) → def.key ≡ key → covers_row def (whole_by table key) row ≡ true
  whole_covers table row [] e = ap (λ columns. key_eq (map (value_at row) columns) []) e
  whole_covers table row (column ∷ columns) e = refl

  whole_fits : (table : ℕ) (key : List ℕ) → def.key ≡ key → ReadFits def (whole_by table key)
  whole_fits table [] e = sym (ap (map (kind_at def)) e)
  whole_fits table (column ∷ columns) e = (subst (λ key. Contains (take 1 key ++ def.index) column) (sym e) (0, omega arith, refl), tt, tt)

  point_covers : (table : ℕ) (row : Seen) → holds_so_far cs (length prefix + 1) (prefix ++ row ∷ []) ≡ true → (key : Option (List Value)) → key_ends def cs prefix def.key ≡ key →
      covers_row def (point_or table def key) row.row ≡ true
  point_covers table row h None e = whole_covers table row.row def.key refl
  point_covers table row h (Some key) e = ap (λ k. key_eq k key) (key_met row h def.key key e) ∙ key_same key

  point_fits : (table : ℕ) (key : Option (List Value)) → key_ends def cs prefix def.key ≡ key → ReadFits def (point_or table def key)
  point_fits table None e = whole_fits table def.key refl
  point_fits table (Some key) e = key_kinds def.key key e

  whole_table : (table : ℕ) (key : List ℕ) → read_table (whole_by table key) ≡ table
  whole_table table [] = refl
  whole_table table (column ∷ columns) = refl

  point_table : (table : ℕ) (key : Option (List Value)) → read_table (point_or table def key) ≡ table
  point_table table None = whole_table table def.key
  point_table table (Some key) = refl

  pub table_of_read : (table : ℕ) (way : Access) → read_table (read_by table def way cs prefix) ≡ table
  table_of_read table access.Point = point_table table (key_ends def cs prefix def.key)
  table_of_read table (access.Span column) = refl
  table_of_read table access.Whole = whole_table table def.key

  read_covers : (table : ℕ) (way : Access) (row : Seen) → holds_so_far cs (length prefix + 1) (prefix ++ row ∷ []) ≡ true → covers_row def (read_by table def way cs prefix) row.row ≡ true
  read_covers table access.Point row h = point_covers table row h (key_ends def cs prefix def.key) refl
  read_covers table (access.Span column) row h =
      and_from (is_from (fit_end def cs prefix Low column) (value_at row.row column)) (is_up_to (fit_end def cs prefix High column) (value_at row.row column))
      (low_met row h column (fit_end def cs prefix Low column) refl) (high_met row h column (fit_end def cs prefix High column) refl)
  read_covers table access.Whole row h = whole_covers table row.row def.key refl

  pub read_fits : (table : ℕ) (way : Access) → AccessFits def way → ReadFits def (read_by table def way cs prefix)
  read_fits table access.Point fits = point_fits table (key_ends def cs prefix def.key) refl
  read_fits table (access.Span column) fits = (fits, end_kind Low column (fit_end def cs prefix Low column) refl, end_kind High column (fit_end def cs prefix High column) refl)
  read_fits table access.Whole fits = whole_fits table def.key refl

  pub read_wide : (defs : List TableDef) (table : ℕ) (way : Access) → slice_get defs table ≡ Some def → IsWide defs cs prefix (read_by table def way cs prefix)
  read_wide defs table way e = record {
    covers = λ row h.
        ap (λ t. covers_by (slice_get defs t) (read_by table def way cs prefix) row.row) (table_of_read table way)
        ∙ ap (λ d. covers_by d (read_by table def way cs prefix) row.row) e
        ∙ read_covers table way row h;
  }

  pub read_fits_in : (defs : List TableDef) (table : ℕ) (way : Access) → slice_get defs table ≡ Some def → AccessFits def way → ReadFitsIn defs (read_by table def way cs prefix)
  read_fits_in defs table way e fits =
      subst (λ d. IsSomeAnd d (λ other. ReadFits other (read_by table def way cs prefix))) (sym (ap (slice_get defs) (table_of_read table way) ∙ e)) (read_fits table way fits)

  pub read_is : (defs : List TableDef) (table : ℕ) (way : Access) → slice_get defs table ≡ Some def → AccessFits def way → IsReadOf defs table cs prefix (read_by table def way cs prefix)
  read_is defs table way e fits = record { of_table = table_of_read table way; fits = read_fits_in defs table way e fits; wide = read_wide defs table way e }
