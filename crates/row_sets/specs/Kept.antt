-- What an overlay keeps true of its maps, its count and its room.
use Rattle.std.specs.Prelude.{◌≡◌, ◌≤◌, ℕ, [], length}
use Rattle.std.specs.BTreeMap.{BTreeMap, IsOrdered}
use Rattle.std.specs.FinMap.{FinMap}
use Rattle.std.specs.Ordering.{nat_cmp}
use Rattle.std.specs.Vec.{vec_len, vec_capacity}
use Rattle.std.specs.declared.vec.Vec.{Vec}
use Rattle.std.specs.declared.alloc.Global.{Global}
use Rattle.rel_base.specs.Value.{key_cmp}
use Rattle.rel_base.specs.declared.access.Write.{Write}
use Rattle.row_sets.specs.Overlay.{flat}
use Rattle.row_sets.specs.declared.table_writes.OwnWrite.{OwnWrite}

-- the tables stand in order, the count is that of their keys, and the empty vector has room for one write of each
pub record IsByTable (tables : BTreeMap ℕ (FinMap key_cmp OwnWrite)) (count : ℕ) (room : Vec Write Global) : Type 0 where
  pub ordered : IsOrdered nat_cmp tables
  pub counted : length (flat tables.entries) ≡ count
  pub empty : (room.items ≡ []) × (vec_len room ≡ 0)
  pub enough : count ≤ vec_capacity room
