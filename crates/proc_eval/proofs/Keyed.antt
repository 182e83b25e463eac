-- Whether a row has a key, value by value.
use Rattle.std.proofs.Common.{◌≡◌, ℕ, List, ◌∷◌, refl, sym}
use Rattle.std.specs.Prelude.{◌&&◌, pos, slice_get}
use Rattle.std.specs.Option.{unwrap_or}
use Rattle.std.proofs.lemmas.Option.{unwrap_or-slice_get}
use Rattle.std.specs.Ordering.{is_eq, ordering_then}
use Rattle.std.specs.declared.cmp.Ordering.{Ordering}
use Rattle.std.specs.declared.cmp.Ordering.TheVariants.{Less, Equal, Greater}
use Rattle.rel_base.specs.declared.value.Value.{Value}
use Rattle.rel_base.specs.declared.value.Value.TheVariants as value
use Rattle.rel_base.specs.Row.{value_at}
use Rattle.rel_base.specs.Value.{value_cmp, key_cmp, value_eq, key_eq}

both_equal : (first rest : Ordering) → is_eq (ordering_then first rest) ≡ (is_eq first && is_eq rest)
both_equal Less rest = refl
both_equal Equal rest = refl
both_equal Greater rest = refl

pub key_eq_next : (x y : Value) (xs ys : List Value) → key_eq (x ∷ xs) (y ∷ ys) ≡ (value_eq x y && key_eq xs ys)
key_eq_next x y xs ys = both_equal (value_cmp x y) (key_cmp xs ys)

pub value_at_get : (row : List Value) (column : ℕ) → value_at row column ≡ unwrap_or (slice_get row column) (value.Int (pos 0))
value_at_get row column = sym (unwrap_or-slice_get row column (value.Int (pos 0)))
