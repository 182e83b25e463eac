-- A transaction's own writes in one list.
use Rattle.std.specs.Prelude.{ℕ, Bool, List, [], ◌∷◌, map, is_none, ◌&&◌}
use Rattle.rel_base.specs.declared.access.Write.{Write}
use Rattle.rel_base.specs.declared.value.Value.{Value}
use Rattle.rel_base.specs.Tables.{write_ref}
use Rattle.row_sets.specs.Overlay.{Written, put_own}
use Rattle.row_sets.specs.declared.table_writes.OwnWrite.{OwnWrite}

-- what a write did to its key
abbrev pub done_by : Write → OwnWrite
done_by write = record { before = write.before; after = write.after }

-- whether a write left a key without a row that had none
abbrev pub is_nothing : Write → Bool
is_nothing write = is_none write.before && is_none write.after

-- the tables and keys of writes, each with what was done there
abbrev pub listed : List Write → List ((ℕ × List Value) × OwnWrite)
listed writes = map (λ write. (write_ref write, done_by write)) writes

-- the same put among others, one after the other
abbrev pub put_each : Written → List ((ℕ × List Value) × OwnWrite) → Written
put_each own [] = own
put_each own (e ∷ es) = put_each (put_own own e.0 e.1.before e.1.after) es
