-- The row that the last write on a key left.
use Rattle.std.specs.Prelude.{ℕ, List, [], ◌∷◌, cond, Option, None}
use Rattle.rel_base.specs.declared.value.Value.{Value}
use Rattle.rel_base.specs.Tables.{Stamped}
use Rattle.version_index.specs.Chain.{is_on}

-- the row at a table and key after some writes, where `row` is there before them
abbrev pub left_from : Option (List Value) → ℕ × List Value → List Stamped → Option (List Value)
left_from row ref [] = row
left_from row ref (stamped ∷ rest) = left_from (cond (is_on ref stamped) stamped.1.write.after row) ref rest

-- the row at a table and key after the writes of a history
abbrev pub left_at : ℕ × List Value → List Stamped → Option (List Value)
left_at ref history = left_from None ref history
