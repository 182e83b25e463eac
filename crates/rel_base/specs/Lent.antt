-- Rows that are lent by what keeps them.
use Rattle.std.specs.Prelude.{List, map}
use Rattle.std.specs.Borrow.{Bor}
use Rattle.rel_base.specs.declared.access.Seen.{Seen}
use Rattle.rel_base.specs.declared.access.SeenRef.{SeenRef}
use Rattle.rel_base.specs.declared.value.Value.{Value}

-- a row that is lent, with its place
abbrev pub seen_lent : SeenRef → Seen
seen_lent seen = record { row = seen.row.now; place = seen.place }

-- the rows that are lent
abbrev pub lent_rows : List (Bor (List Value)) → List (List Value)
lent_rows lent = map (λ row. row.now) lent

-- rows without their places
abbrev pub rows_of : List Seen → List (List Value)
rows_of seens = map (λ seen. seen.row) seens
