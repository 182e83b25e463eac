-- The writes at the start of a history that are in one block.
use Rattle.rel_base.specs.Tables.{Stamped}
use Rattle.rel_base.specs.declared.access.Placed.{Placed}
use Rattle.std.specs.Prelude.{List, [], cond, ◌==◌, ◌∷◌, ℕ}

-- the writes of a block, with their positions, up to the first of another block
abbrev pub writes_from : ℕ → List Stamped → List Placed
writes_from number [] = []
writes_from number (stamped ∷ rest) = cond (stamped.0 == number) (stamped.1 ∷ writes_from number rest) []
