-- The value of a row in a column, by what is found there.
use Rattle.std.proofs.Common.{◌≡◌, ℕ, pos, zero, suc, List, [], ◌∷◌, Some, None, refl, slice_get}
use Rattle.std.proofs.lemmas.Option.{same_Some}
use Rattle.rel_base.specs.Row.{value_at}
use Rattle.rel_base.specs.declared.value.Value.{Value}
use Rattle.rel_base.specs.declared.value.Value.TheVariants as value

pub value_none : (row : List Value) (column : ℕ) → slice_get row column ≡ None → value_at row column ≡ value.Int (pos 0)
value_none [] column none = refl
value_none (v ∷ row) zero none = cc
value_none (v ∷ row) (suc column) none = value_none row column none

pub value_some : (row : List Value) (column : ℕ) (v : Value) → slice_get row column ≡ Some v → value_at row column ≡ v
value_some [] column v some = cc
value_some (w ∷ row) zero v some = same_Some w v some
value_some (w ∷ row) (suc column) v some = value_some row column v some
