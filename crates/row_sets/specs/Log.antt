-- The log of committed writes that a store keeps.
use Rattle.std.specs.Prelude.{◌≡◌, ◌-◌, ℕ, All, List, map}
use Rattle.std.specs.Vec.{vec_len, vec_capacity}
use Rattle.std.specs.declared.vec.Vec.{Vec}
use Rattle.std.specs.declared.alloc.Global.{Global}
use Rattle.rel_base.specs.declared.access.Place.{Place}
use Rattle.rel_base.specs.declared.access.Write.{Write}
use Rattle.rel_base.specs.declared.schema.TableDef.{TableDef}
use Rattle.rel_base.specs.Access.{WriteFits}
use Rattle.rel_base.specs.Tables.{Stamped}
use Rattle.row_sets.specs.declared.entry.LogEntry.{LogEntry}

-- the committed write of an entry
abbrev pub stamped_of : LogEntry → Stamped
stamped_of entry = (entry.block, entry.placed)

-- the history that a log keeps
abbrev pub history_of : List LogEntry → List Stamped
history_of entries = map stamped_of entries

-- the entry of a write at a place
abbrev pub entry_of : Place → Write → LogEntry
entry_of place write = record { block = place.block; placed = record { pos = place.pos; write = write } }

-- how many entries a log has room for
abbrev pub room_of : Vec LogEntry Global → ℕ
room_of log = vec_capacity log - vec_len log

-- each write of a table fits its declaration
abbrev pub FitsTable : TableDef → ℕ → List Stamped → Type 0
FitsTable def table history = All (λ stamped. stamped.1.write.table ≡ table → WriteFits def stamped.1.write) history
