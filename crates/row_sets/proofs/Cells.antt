-- The value of a row in a column, by a look at the row.
use Rattle.std.proofs.Common.{◌≡◌, ℕ, pos, List, sym}
use Rattle.std.specs.Prelude.{slice_get}
use Rattle.std.specs.Option.{unwrap_or}
use Rattle.std.proofs.lemmas.Option.{unwrap_or-slice_get}
use Rattle.rel_base.specs.Row.{value_at}
use Rattle.rel_base.specs.declared.value.Value.{Value}
use Rattle.rel_base.specs.declared.value.Value.TheVariants as value

pub value_at_get : (row : List Value) (column : ℕ) → value_at row column ≡ unwrap_or (slice_get row column) (value.Int (pos 0))
value_at_get row column = sym (unwrap_or-slice_get row column (value.Int (pos 0)))
