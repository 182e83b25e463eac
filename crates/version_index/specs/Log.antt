-- The log of committed writes.
use Rattle.std.specs.Prelude.{◌≡◌, ◌≤◌, List, [], ◌∷◌, All, false, ⊤}
use Rattle.std.specs.Ordering.{is_gt}
use Rattle.rel_base.specs.Late.{stamp_cmp}
use Rattle.rel_base.specs.Tables.{Stamped}

-- a committed write stands before another: in no later block, and, on one table, at no later place and key
abbrev pub Precedes : Stamped → Stamped → Type 0
Precedes a b = (a.0 ≤ b.0) × (a.1.write.table ≡ b.1.write.table → is_gt (stamp_cmp a b) ≡ false)

-- committed writes stand in order
abbrev pub InOrder : List Stamped → Type 0
InOrder [] = ⊤
InOrder (stamped ∷ rest) = All (Precedes stamped) rest × InOrder rest
