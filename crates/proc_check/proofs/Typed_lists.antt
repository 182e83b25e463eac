-- Values of keys and rows, ends of spans and changes of which the check knows the kinds.
use Rattle.std.proofs.Common.{◌≡◌, ℕ, pos, refl, sym, ap, subst, ◌∙◌, List, [], ◌∷◌, ◌++◌, length, map, take, true, false, ◌||◌, ◌==◌, Ok, Option, Some, None, MatchOption, arith}
use Rattle.std.specs.Prelude.{slice_get, slice_set, slice_index_or}
use Rattle.std.specs.List.{AllByRecursion, cons_option, list_any}
use Rattle.std.specs.Str.{bytes_eq}
use Rattle.std.proofs.lemmas.Bool.{eq-eqb}
use Rattle.std.proofs.Math.Seq.{map-set_same}
use Rattle.std.proofs.Math.ListN.{get_or}
use Rattle.std.proofs.lemmas.List.{get_or-set_other}
use Rattle.std.proofs.lemmas.List.Folds.{list_any-append}
use Rattle.std.proofs.lemmas.Option.{get_or_from_slice_get}
use Rattle.rel_base.specs.declared.schema.TableDef.{TableDef}
use Rattle.rel_base.specs.declared.value.Kind.{Kind}
use Rattle.rel_base.specs.declared.value.Kind.TheVariants as kind
use Rattle.rel_base.specs.declared.value.Value.{Value}
use Rattle.rel_base.specs.declared.value.Value.TheVariants as value
use Rattle.rel_base.specs.Row.{value_at}
use Rattle.rel_base.specs.Schema.{RowFits, key_of_row, span_columns}
use Rattle.rel_base.specs.Value.{kind_of}
use Rattle.rel_base.proofs.Bytes.{bytes_same, equal_bytes}
use Rattle.rel_base.proofs.Bits.{or_first, or_right, or_second}
use Rattle.proc_syntax.specs.declared.tree.Change.{Change}
use Rattle.proc_syntax.specs.declared.tree.ColumnText.{ColumnText}
use Rattle.proc_syntax.specs.declared.tree.Expr.{Expr}
use Rattle.proc_syntax.specs.declared.tree.Named.{Named}
use Rattle.proc_syntax.specs.declared.tree.TableText.{TableText}
use Rattle.proc_syntax.specs.Declaring.{declare, column_number, known_columns}
use Rattle.proc_syntax.specs.Meaning.{set_columns}
use Rattle.proc_syntax.specs.Scope.{Environment, column_in, value_of, values_of, end_of, change_of, changes_of}
use Rattle.proc_syntax.specs.Values.{has_kind}
use Rattle.proc_syntax.proofs.Fits.{kind_holds}
use Rattle.proc_check.specs.declared.fault.BadKind.TheVariants.{UnknownName, KeySet, NameTwice}
use Rattle.proc_check.specs.declared.scope.Variable.{Variable}
use Rattle.proc_check.specs.Kinds.{need, type_of}
use Rattle.proc_check.specs.Statements.{each_fits, end_fits, walk_change}
use Rattle.proc_check.specs.Tables.{column_kind, columns_in, columns_of, key_in, is_spanned_in, known_column, key_of}
use Rattle.proc_check.specs.Walk.{◌>>=◌, in_order, has_name, refuse}
use Rattle.proc_check.proofs.Limits.{first, second, not_refused}
use Rattle.proc_check.proofs.Operators.{GivesKinds, GivesEnd, Of, no_truth, cons_kinds, cons_of, some_end, change_kind}
use Rattle.proc_check.proofs.Columns.{kinds_of, number_at, run_number, one_name, row_value}
use Rattle.proc_check.proofs.Names.{Agrees, ok_then, found_some}
use Rattle.proc_check.proofs.Typed_values.{expr_typed, needed, needed_kind}

-- ---- the columns that a span may be on

same_number : (number : ℕ) → (number == number) ≡ true
same_number number = eq-eqb number number refl

with_more : (o : Option ℕ) (number : ℕ) (numbers : List ℕ) → list_any (λ c. c == number) numbers ≡ true → list_any (λ c. c == number) (cons_option o numbers) ≡ true
with_more None number numbers h = h
with_more (Some n) number numbers h = or_right (n == number) (list_any (λ c. c == number) numbers) h

-- the number of a column that is named is among those of the names
among : (columns : List ColumnText) (names : List Named) (name : List ℕ) (number : ℕ) → column_number columns name ≡ Some number → has_name (λ other. other) names name ≡ true
    → list_any (λ c. c == number) (known_columns columns names) ≡ true
among columns [] name number is named = cc
among columns (n ∷ names) name number is named =
    elim (bytes_eq n.name name)
    as (λ b. bytes_eq n.name name ≡ b → (b || has_name (λ other. other) names name) ≡ true → list_any (λ c. c == number) (cons_option (column_number columns n.name) (known_columns columns names)) ≡ true) [
      | true ↦ λ same named.
          let here : column_number columns n.name ≡ Some number = ap (column_number columns) (equal_bytes n.name name same) ∙ is in
          rw (here, same_number number) refl
      | false ↦ λ differs named. with_more (column_number columns n.name) number (known_columns columns names) (among columns names name number is named)
    ] refl named

first_among : (columns : List ColumnText) (names : List Named) (name : List ℕ) (number : ℕ) → column_number columns name ≡ Some number → has_name (λ other. other) (take 1 names) name ≡ true
    → list_any (λ c. c == number) (take 1 (known_columns columns names)) ≡ true
first_among columns [] name number is named = cc
first_among columns (n ∷ names) name number is named =
    elim (bytes_eq n.name name)
    as (λ b. bytes_eq n.name name ≡ b → (b || false) ≡ true → list_any (λ c. c == number) (take 1 (cons_option (column_number columns n.name) (known_columns columns names))) ≡ true) [
      | true ↦ λ same named.
          let here : column_number columns n.name ≡ Some number = ap (column_number columns) (equal_bytes n.name name same) ∙ is in
          rw (here, same_number number) refl
      | false ↦ λ differs named. absurd (no_truth named)
    ] refl named

pub spanned : (text : TableText) (name : List ℕ) (number : ℕ) → column_number text.columns name ≡ Some number → is_spanned_in (Some text) name ≡ true → list_any (λ c. c == number) (span_columns (declare text)) ≡ true
spanned text name number is named =
    list_any-append (λ c. c == number) (take 1 (known_columns text.columns text.key)) (known_columns text.columns text.index) ∙
    (elim (has_name (λ other. other) (take 1 text.key) name)
    as (λ b. has_name (λ other. other) (take 1 text.key) name ≡ b → (b || has_name (λ other. other) text.index name) ≡ true
    → (list_any (λ c. c == number) (take 1 (known_columns text.columns text.key)) || list_any (λ c. c == number) (known_columns text.columns text.index)) ≡ true) [
      | true ↦ λ in_key named. rw (first_among text.columns text.key name number is in_key) refl
      | false ↦ λ not_key named. or_right _ _ (among text.columns text.index name number is named)
    ] refl named)

-- ---- changes

-- a row that fits still does with the change, and has its key
pub record IsChange (def : TableDef) (change : ℕ × Value) : Type 0 where
  pub fits : (row : List Value) → RowFits def row → RowFits def (slice_set row change.0 change.1)
  pub keeps : (row : List Value) → key_of_row def (slice_set row change.0 change.1) ≡ key_of_row def row

stored : (row : List Value) (number : ℕ) (k : Kind) (d : Value) (o : Option Value) → slice_get row number ≡ o → MatchOption o ⊥ (λ w. has_kind k w ≡ true) → kind_of (get_or row number d) ≡ k
stored row number k d None is h = absurd h
stored row number k d (Some w) is h = ap kind_of (get_or_from_slice_get row number w d is) ∙ kind_holds k w h

change_fits : (text : TableText) (number : ℕ) (k : Kind) (v : Value) → slice_get (kinds_of text.columns) number ≡ Some k → has_kind k v ≡ true → (row : List Value) → RowFits (declare text) row → RowFits (declare text) (slice_set row number v)
change_fits text number k v is of_v row fits =
    map-set_same kind_of row number v (value.Int (pos 0))
    (kind_holds k v of_v ∙ sym (stored row number k (value.Int (pos 0)) (slice_get row number) refl (row_value row (kinds_of text.columns) number k fits is)))
    ∙ fits

differs : (a b : List ℕ) → bytes_eq a b ≡ false → a ≡ b → ⊥
differs a b different same = no_truth (sym different ∙ ap (λ c. bytes_eq a c) (sym same) ∙ bytes_same a)

-- a key column that is of another name is left
key_kept : (columns : List ColumnText) (names : List Named) (name : List ℕ) (number : ℕ) (v : Value) (row : List Value) → column_number columns name ≡ Some number → has_name (λ other. other) names name ≡ false
    → map (value_at (slice_set row number v)) (known_columns columns names) ≡ map (value_at row) (known_columns columns names)
key_kept columns [] name number v row is unset = refl
key_kept columns (n ∷ names) name number v row is unset =
    let unset_rest = key_kept columns names name number v row is (or_second (bytes_eq n.name name) _ unset) in
    elim (column_number columns n.name)
    as (λ o. column_number columns n.name ≡ o → map (value_at (slice_set row number v)) (cons_option o (known_columns columns names)) ≡ map (value_at row) (cons_option o (known_columns columns names))) [
      | None ↦ λ at_none. unset_rest
      | Some j ↦ λ at_j.
          ap (λ x. x ∷ map (value_at (slice_set row number v)) (known_columns columns names))
          (get_or-set_other row number j v (value.Int (pos 0)) (λ same. differs n.name name (or_first (bytes_eq n.name name) _ unset) (one_name columns n.name name number (at_j ∙ ap Some same) is)))
          ∙ ap (λ xs. value_at row j ∷ xs) unset_rest
    ] refl

pub set_all : (def : TableDef) (key : List Value) (changes : List (ℕ × Value)) (row : List Value) → AllByRecursion (IsChange def) changes → RowFits def row × (key_of_row def row ≡ key)
    → RowFits def (set_columns row changes) × (key_of_row def (set_columns row changes) ≡ key)
set_all def key [] row all under = under
set_all def key (change ∷ changes) row all under = set_all def key changes (slice_set row change.0 change.1) all.1 (all.0.fits row under.0, all.0.keeps row ∙ under.1)

-- ---- values

module _ (tables : List TableText) (scope : List Variable) (environment : Environment) (agrees : Agrees (map declare tables) scope environment.variables) where
  pub key_typed : (columns : List ColumnText) (names : List Named) (values : List Expr) → length values ≡ length names → each_fits (λ name. column_kind columns name.name) tables scope names values ≡ Ok tt
      → GivesKinds (map (λ c. slice_index_or (kinds_of columns) c kind.Int) (known_columns columns names)) (values_of (map declare tables) values environment)
  key_typed columns [] [] same ok = refl
  key_typed columns [] (v ∷ values) same ok = absurd (omega (arith, same))
  key_typed columns (n ∷ names) [] same ok = absurd (omega (arith, same))
  key_typed columns (n ∷ names) (v ∷ values) same ok =
      let step = first (need (column_kind columns n.name) (type_of tables scope v)) (λ _. each_fits (λ name. column_kind columns name.name) tables scope names values) ok in
      let rest = second (need (column_kind columns n.name) (type_of tables scope v)) (λ _. each_fits (λ name. column_kind columns name.name) tables scope names values) ok in
      let fits = needed (column_kind columns n.name) (type_of tables scope v) step in
      let column = number_at columns n.name fits.0 fits.2 in
      let of_column : slice_index_or (kinds_of columns) column.0 kind.Int ≡ fits.0 = get_or_from_slice_get (kinds_of columns) column.0 fits.0 kind.Int column.2 in
      subst (λ o. GivesKinds (map (λ c. slice_index_or (kinds_of columns) c kind.Int) (cons_option o (known_columns columns names))) (values_of (map declare tables) (v ∷ values) environment)) (sym column.1)
      (subst (λ k. GivesKinds (k ∷ map (λ c. slice_index_or (kinds_of columns) c kind.Int) (known_columns columns names)) (values_of (map declare tables) (v ∷ values) environment)) (sym of_column)
      (cons_kinds fits.0 (map (λ c. slice_index_or (kinds_of columns) c kind.Int) (known_columns columns names)) (value_of (map declare tables) v environment) (values_of (map declare tables) values environment)
      (expr_typed tables scope environment agrees v fits.0 fits.1) (key_typed columns names values (omega (arith, same)) rest)))

  pub insert_typed : (columns : List ColumnText) (values : List Expr) → length values ≡ length columns → each_fits (λ column. Some column.kind) tables scope columns values ≡ Ok tt
      → GivesKinds (kinds_of columns) (values_of (map declare tables) values environment)
  insert_typed [] [] same ok = refl
  insert_typed [] (v ∷ values) same ok = absurd (omega (arith, same))
  insert_typed (c ∷ columns) [] same ok = absurd (omega (arith, same))
  insert_typed (c ∷ columns) (v ∷ values) same ok =
      let step = first (need (Some c.kind) (type_of tables scope v)) (λ _. each_fits (λ column. Some column.kind) tables scope columns values) ok in
      let rest = second (need (Some c.kind) (type_of tables scope v)) (λ _. each_fits (λ column. Some column.kind) tables scope columns values) ok in
      cons_kinds c.kind (kinds_of columns) (value_of (map declare tables) v environment) (values_of (map declare tables) values environment)
      (expr_typed tables scope environment agrees v c.kind (needed_kind c.kind (type_of tables scope v) step)) (insert_typed columns values (omega (arith, same)) rest)

  pub end_typed : (k : Kind) (end : Option Expr) → end_fits tables scope k end ≡ Ok tt → GivesEnd k (end_of (map declare tables) end environment)
  end_typed k None ok = refl
  end_typed k (Some e) ok = some_end k (value_of (map declare tables) e environment) (expr_typed tables scope environment agrees e k (needed_kind k (type_of tables scope e) ok))

  module _ (table : ℕ) (text : TableText) (here : slice_get tables table ≡ Some text) where
    change_typed : (before : List Change) (change : Change) → walk_change tables scope table before change ≡ Ok tt
        → Of (IsChange (declare text)) (change_of (map declare tables) (declare text) change environment)
    change_typed before change ok =
        let known = ok_then (known_column tables table change.column) (λ k. refuse (has_name (λ other. other) (key_of tables table) change.column.name) change.column.line KeySet >>= λ _.
        refuse (has_name (λ other. other.column) before change.column.name) change.column.line NameTwice >>= λ _. need (Some k) (type_of tables scope change.value)) tt ok in
        let unset = ok_then (refuse (has_name (λ other. other) (key_of tables table) change.column.name) change.column.line KeySet) (λ _.
        refuse (has_name (λ other. other.column) before change.column.name) change.column.line NameTwice >>= λ _. need (Some known.0) (type_of tables scope change.value)) tt known.2 in
        let once = ok_then (refuse (has_name (λ other. other.column) before change.column.name) change.column.line NameTwice) (λ _. need (Some known.0) (type_of tables scope change.value)) tt unset.2 in
        let of_column : column_kind text.columns change.column.name ≡ Some known.0 =
        ap (λ t. column_kind (columns_in t) change.column.name) (sym here) ∙ found_some (column_kind (columns_of tables table) change.column.name) change.column.line UnknownName known.0 known.1 in
        let not_key : has_name (λ other. other) text.key change.column.name ≡ false =
        ap (λ t. has_name (λ other. other) (key_in t) change.column.name) (sym here) ∙ not_refused (has_name (λ other. other) (key_of tables table) change.column.name) change.column.line KeySet unset.1 in
        let column = number_at text.columns change.column.name known.0 of_column in
        change_kind (IsChange (declare text)) (column_in (declare text) change.column.name) column.0 known.0 (value_of (map declare tables) change.value environment)
        (run_number text.columns change.column.name column.0 column.1)
        (expr_typed tables scope environment agrees change.value known.0 (needed_kind known.0 (type_of tables scope change.value) once.2))
        (λ v of_v. record { fits = change_fits text column.0 known.0 v column.2 of_v; keeps = λ row. key_kept text.columns text.key change.column.name column.0 v row column.1 not_key })

    pub changes_typed : (before changes : List Change) → in_order (walk_change tables scope table) before changes ≡ Ok tt → Of (AllByRecursion (IsChange (declare text))) (changes_of (map declare tables) (declare text) changes environment)
    changes_typed before [] ok = tt
    changes_typed before (change ∷ changes) ok =
        cons_of (IsChange (declare text)) (change_of (map declare tables) (declare text) change environment) (changes_of (map declare tables) (declare text) changes environment)
        (change_typed before change (first (walk_change tables scope table before change) (λ _. in_order (walk_change tables scope table) (before ++ change ∷ []) changes) ok))
        (changes_typed (before ++ change ∷ []) changes (second (walk_change tables scope table before change) (λ _. in_order (walk_change tables scope table) (before ++ change ∷ []) changes) ok))
