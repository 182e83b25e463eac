-- What is reported of a late read.
use Rattle.std.specs.Option.{option_map, option_or}
use Rattle.std.specs.Prelude.{List, None, Option, [], ◌+◌, ◌∷◌, ℕ}
use Rattle.conflict_rules.specs.declared.overtaken.LateRef.{LateRef}
use Rattle.rel_base.specs.Access.{read_table}
use Rattle.rel_base.specs.Late.{LateRead, least_hit}
use Rattle.rel_base.specs.Tables.{Stamped}
use Rattle.rel_base.specs.declared.access.Made.{Made}
use Rattle.rel_base.specs.declared.access.Read.{Read}
use Rattle.rel_base.specs.declared.schema.TableDef.{TableDef}
use Rattle.row_sets.specs.Versions.{Hit, hit_by, hit_of}

-- the number of the read, from 1, its table, and the hit
pub record Overtaken : Type 0 where
  pub read : ℕ
  pub table : ℕ
  pub hit : Hit

-- of a late read
abbrev pub overtaken : List TableDef → LateRead → Overtaken
overtaken tables found = record { read = found.number; table = read_table found.read; hit = hit_by tables found.read found.write }

-- of an answer that lends its key
abbrev pub overtaken_of : LateRef → Overtaken
overtaken_of late = record { read = late.read; table = late.table; hit = hit_of late.hit }

-- of one read of a number, if a write hits it
abbrev pub overtaken_at : List TableDef → ℕ → Read → List Stamped → Option Overtaken
overtaken_at tables number read since =
    option_map (λ stamped. record { read = number; table = read_table read; hit = hit_by tables read stamped }) (least_hit tables read since)

-- of the first of some reads that a write hits, of which the first has a number
abbrev pub overtaken_from : List TableDef → ℕ → List Made → List Stamped → Option Overtaken
overtaken_from tables number [] since = None
overtaken_from tables number (made ∷ rest) since = option_or (overtaken_at tables number made.read since) (overtaken_from tables (number + 1) rest since)
