-- What the check finds in the declarations of tables, a run finds in the tables that they declare.
use Rattle.std.proofs.Common.{◌≡◌, ℕ, zero, suc, ◌+◌, refl, sym, ap, subst, ◌∙◌, List, [], ◌∷◌, map, true, false, cond, Option, Some, None, MatchOption, arith}
use Rattle.std.specs.Prelude.{slice_get}
use Rattle.std.specs.List.{position_from}
use Rattle.std.specs.Option.{option_map}
use Rattle.std.specs.Str.{bytes_eq}
use Rattle.std.proofs.lemmas.Option.{slice_get-map}
use Rattle.std.proofs.lemmas.Slice.Eq.{bytes_eq-Decides}
use Rattle.rel_base.specs.declared.value.Kind.{Kind}
use Rattle.rel_base.specs.declared.value.Value.{Value}
use Rattle.rel_base.specs.Value.{kind_of}
use Rattle.rel_base.proofs.Bytes.{equal_bytes}
use Rattle.proc_syntax.specs.declared.tree.ColumnText.{ColumnText}
use Rattle.proc_syntax.specs.Declaring.{column_of, column_number}
use Rattle.proc_syntax.specs.Values.{has_kind}
use Rattle.proc_syntax.proofs.Fits.{own_kind}
use Rattle.proc_check.specs.Tables.{column_kind}

pub none_some : {A : Type 0} {x : A} → None ≡ Some x → ⊥
none_some h = subst (λ o. MatchOption o (Unit {0}) (λ x. ⊥)) h tt

pub some_is : {A : Type 0} {x y : A} → Some x ≡ Some y → x ≡ y
some_is h = cc

-- the kinds of the columns that a text declares
abbrev pub kinds_of : List ColumnText → List Kind
kinds_of columns = map (λ column. column.kind) (map column_of columns)

-- a column that the check knows has a number, and the kind that the check knows
pub column_at : (columns : List ColumnText) (name : List ℕ) (k : Kind) (first : ℕ) → column_kind columns name ≡ Some k
    → (number : ℕ) × (position_from (λ column. bytes_eq column.name name) first (map column_of columns) ≡ Some (first + number)) × (slice_get (kinds_of columns) number ≡ Some k)
column_at [] name k first found = absurd (none_some found)
column_at (column ∷ columns) name k first found =
    elim (bytes_eq column.name.name name)
    as (λ b. cond b (Some column.kind) (column_kind columns name) ≡ Some k
    → (number : ℕ) × (cond b (Some first) (position_from (λ column. bytes_eq column.name name) (first + 1) (map column_of columns)) ≡ Some (first + number)) × (slice_get (column.kind ∷ kinds_of columns) number ≡ Some k)) [
      | true ↦ λ is. (zero, ap Some (omega arith), is)
      | false ↦ λ is.
          let rest = column_at columns name k (first + 1) is in
          (suc rest.0, rest.1 ∙ ap Some (omega arith), rest.2)
    ] found

-- a row that fits has a value of its kind in each column
of_kind : (found : Option Value) (k : Kind) → option_map kind_of found ≡ Some k → MatchOption found ⊥ (λ v. has_kind k v ≡ true)
of_kind None k is = none_some is
of_kind (Some v) k is = subst (λ k. has_kind k v ≡ true) (some_is is) (own_kind v)

pub row_value : (row : List Value) (kinds : List Kind) (number : ℕ) (k : Kind) → map kind_of row ≡ kinds → slice_get kinds number ≡ Some k → MatchOption (slice_get row number) ⊥ (λ v. has_kind k v ≡ true)
row_value row kinds number k fits is = of_kind (slice_get row number) k (sym (slice_get-map kind_of row number) ∙ ap (λ kinds. slice_get kinds number) fits ∙ is)

-- ---- the numbers of columns

same_position : (columns : List ColumnText) (name : List ℕ) (first : ℕ) → position_from (λ column. bytes_eq column.name name) first (map column_of columns) ≡ position_from (λ column. bytes_eq column.name.name name) first columns
same_position [] name first = refl
same_position (column ∷ columns) name first = ap (λ rest. cond (bytes_eq column.name.name name) (Some first) rest) (same_position columns name (first + 1))

-- a column that the check knows has a number
pub number_at : (columns : List ColumnText) (name : List ℕ) (k : Kind) → column_kind columns name ≡ Some k → (number : ℕ) × (column_number columns name ≡ Some number) × (slice_get (kinds_of columns) number ≡ Some k)
number_at columns name k found =
    let column = column_at columns name k 0 found in
    let first : 0 + column.0 ≡ column.0 = omega arith in
    (column.0, sym (same_position columns name 0) ∙ column.1 ∙ ap Some first, column.2)

-- a run finds the same number
pub run_number : (columns : List ColumnText) (name : List ℕ) (number : ℕ) → column_number columns name ≡ Some number → position_from (λ column. bytes_eq column.name name) 0 (map column_of columns) ≡ Some number
run_number columns name number is = same_position columns name 0 ∙ is

abbrev names_of : List ColumnText → List (List ℕ)
names_of columns = map (λ column. column.name.name) columns

-- the column of a number has the name
named_from : (columns : List ColumnText) (name : List ℕ) (first number : ℕ) → position_from (λ column. bytes_eq column.name.name name) first columns ≡ Some number
    → (at_place : ℕ) × (number ≡ first + at_place) × (slice_get (names_of columns) at_place ≡ Some name)
named_from [] name first number is = absurd (none_some is)
named_from (column ∷ columns) name first number is =
    elim (bytes_eq column.name.name name)
    as (λ b. bytes_eq column.name.name name ≡ b → cond b (Some first) (position_from (λ column. bytes_eq column.name.name name) (first + 1) columns) ≡ Some number
    → (at_place : ℕ) × (number ≡ first + at_place) × (slice_get (column.name.name ∷ names_of columns) at_place ≡ Some name)) [
      | true ↦ λ same is.
          let e : first ≡ number = some_is is in
          (zero, omega (arith, e), ap Some (equal_bytes column.name.name name same))
      | false ↦ λ other is.
          let rest = named_from columns name (first + 1) number is in
          let e : number ≡ first + 1 + rest.0 = rest.1 in
          (suc rest.0, omega (arith, e), rest.2)
    ] refl is

-- columns of one number have one name
pub one_name : (columns : List ColumnText) (name other : List ℕ) (number : ℕ) → column_number columns name ≡ Some number → column_number columns other ≡ Some number → name ≡ other
one_name columns name other number is_name is_other =
    let a = named_from columns name 0 number is_name in
    let b = named_from columns other 0 number is_other in
    let ea : number ≡ 0 + a.0 = a.1 in
    let eb : number ≡ 0 + b.0 = b.1 in
    let same : a.0 ≡ b.0 = omega (arith, ea, eb) in
    some_is (sym a.2 ∙ ap (slice_get (names_of columns)) same ∙ b.2)
