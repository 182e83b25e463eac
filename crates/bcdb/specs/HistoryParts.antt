-- Where in a history the writes of a block begin.
use Rattle.rel_base.specs.Tables.{Stamped}
use Rattle.std.specs.Prelude.{List, [], cond, nat_lt, ◌∷◌, ℕ}

-- a history from the first write on that is in a block of this number or a later one
abbrev pub from_block : ℕ → List Stamped → List Stamped
from_block number [] = []
from_block number (stamped ∷ rest) = cond (nat_lt stamped.0 number) (from_block number rest) (stamped ∷ rest)
