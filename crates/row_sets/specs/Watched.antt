-- The committed writes that a read hits.
use Rattle.std.specs.Prelude.{Bool, ℕ, nat_le, nat_lt, ◌&&◌}
use Rattle.rel_base.specs.declared.access.Read.{Read}
use Rattle.rel_base.specs.declared.schema.TableDef.{TableDef}
use Rattle.rel_base.specs.Access.{hits_write}
use Rattle.rel_base.specs.Tables.{Stamped}
use Rattle.row_sets.specs.declared.hits.Watch.{Watch}

-- whether a read hits a committed write in a block above one height and up to another
abbrev pub is_hit_between : TableDef → Read → ℕ → ℕ → Stamped → Bool
is_hit_between def read after upto stamped = hits_write def read stamped.1.write && (nat_lt after stamped.0 && nat_le stamped.0 upto)

abbrev pub is_watched : Watch → Stamped → Bool
is_watched watch stamped = is_hit_between watch.def.now watch.read.now watch.after watch.upto stamped
