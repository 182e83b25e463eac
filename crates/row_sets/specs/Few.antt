-- A few own writes of a table in a vector, and the others in a map.
use Rattle.std.specs.Prelude.{ℕ, ◌+◌, List, [], ◌∷◌, ◌++◌, Option, Result, Ok, Err}
use Rattle.std.specs.BTreeMap.{BTreeMap}
use Rattle.std.specs.FinMap.Entries.{by_order}
use Rattle.std.specs.declared.cmp.Ordering.{Ordering}
use Rattle.std.specs.declared.alloc.Global.{Global}
use Rattle.std.specs.declared.vec.Vec.{Vec}
use Rattle.rel_base.specs.Value.{key_cmp}
use Rattle.rel_base.specs.declared.value.Value.{Value}
use Rattle.row_sets.specs.Overlay.{first_before}
use Rattle.row_sets.specs.declared.table_writes.OwnWrite.{OwnWrite}

-- the writes of the vector stand before those of the map
abbrev pub in_order : Vec (List Value × OwnWrite) Global → BTreeMap (List Value) OwnWrite → List (List Value × OwnWrite)
in_order few many = few.items ++ many.entries

-- the place of a key among entries in order that are numbered from a number on, and else the one that it would take
abbrev pub place_in : {K X : Type 0} → (K → K → Ordering) → ℕ → K → List (K × X) → Result ℕ ℕ
place_in R at key [] = Err at
place_in R at key (e ∷ es) = by_order (R key e.0) (Err at) (Ok at) (place_in R (at + 1) key es)

abbrev pub place_from : {X : Type 0} → ℕ → List Value → List (List Value × X) → Result ℕ ℕ
place_from at key es = place_in key_cmp at key es

-- what was done to a key after one more put
abbrev pub put_over : Option (List Value) → Option (List Value) → Option OwnWrite → OwnWrite
put_over before after own = record { before = first_before before own; after = after }
