-- What a span of one value covers.
use Rattle.std.proofs.Common.{◌≡◌, ◌∙◌, ◌&&◌, ℕ, List, Option, Some, None, refl, ap, sym}
use Rattle.std.specs.Ordering.{is_eq, is_le, ordering_reverse}
use Rattle.std.specs.declared.cmp.Ordering.{Ordering}
use Rattle.std.specs.declared.cmp.Ordering.TheVariants.{Less, Equal, Greater}
use Rattle.rel_base.specs.Access.{covers_row}
use Rattle.rel_base.specs.Row.{is_from, is_up_to, value_at}
use Rattle.rel_base.specs.Value.{value_cmp, value_cmp-total, value_eq}
use Rattle.rel_base.specs.declared.access.Read.{Read}
use Rattle.rel_base.specs.declared.access.Read.TheVariants.{Span}
use Rattle.rel_base.specs.declared.schema.TableDef.{TableDef}
use Rattle.rel_base.specs.declared.value.Value.{Value}
use Rattle.version_index.specs.Candidates.{only_value}
use Rattle.version_index.specs.Rows.{IsValueOf, value_of}
use Rattle.version_index.proofs.Wanted.{ends_of}

-- a value is another where it stands neither before it nor after it
pub neither_side : (value one : Value) → value_eq value one ≡ (is_le (value_cmp one value) && is_le (value_cmp value one))
neither_side value one = go (value_cmp value one) ∙ ap (λ o. is_le o && is_le (value_cmp value one)) (sym (value_cmp-total.antisymm one value))
  where
    go : (o : Ordering) → is_eq o ≡ (is_le (ordering_reverse o) && is_le o)
    go Less = refl
    go Equal = refl
    go Greater = refl

-- what lies between ends of one value is that value, and nothing else
pub is_the_one : (low high : Option Value) (one value : Value) → only_value low high ≡ Some one → value_eq value one ≡ (is_from low value && is_up_to high value)
is_the_one low high one value is =
    let ends = ends_of low high one (sym is) in
    neither_side value one ∙ (λ i. is_from (sym ends.0 i) value && is_up_to (sym ends.1 i) value)

-- so a row is covered where it has the one value that the read looks for
pub covers_one : (def : TableDef) {table column : ℕ} {low high : Option Value} (read : Read) (one : Value) (row : List Value) → read ≡ Span table column low high → value_of read ≡ Some one
    → value_eq (value_at row column) one ≡ covers_row def read row
covers_one def {table} {column} {low} {high} read one row is own =
    is_the_one low high one (value_at row column) (sym (ap value_of is) ∙ own) ∙ sym (ap (λ r. covers_row def r row) is)

-- the one value between the ends of a span is the one that the read looks for
pub value_given : (read : Read) {table column : ℕ} {low high : Option Value} (given : Option Value) → read ≡ Span table column low high → given ≡ only_value low high → IsValueOf read given
value_given read None is own = tt
value_given read (Some one) is own = ap value_of is ∙ sym own
