-- The least write that a read of one table hits.
use Rattle.std.specs.Prelude.{List, Option, Some, cond}
use Rattle.std.specs.List.{filter}
use Rattle.rel_base.specs.declared.access.Read.{Read}
use Rattle.rel_base.specs.declared.schema.TableDef.{TableDef}
use Rattle.rel_base.specs.Access.{hits_write}
use Rattle.rel_base.specs.Late.{least, lesser, stamp_cmp}
use Rattle.rel_base.specs.Tables.{Stamped}
use Rattle.row_sets.specs.Watched.{is_watched}
use Rattle.row_sets.specs.declared.hits.Watch.{Watch}

-- the least of some writes that a read hits
abbrev pub least_of : TableDef → Read → List Stamped → Option Stamped
least_of def read writes = least stamp_cmp (filter (λ stamped. hits_write def read stamped.1.write) writes)

-- the lesser of a write, where a read hits it in a block above one height and up to another, and of one that may be there
abbrev pub lesser_hit : Watch → Stamped → Option Stamped → Option Stamped
lesser_hit watch stamped other = cond (is_watched watch stamped) (Some (lesser stamp_cmp stamped other)) other
