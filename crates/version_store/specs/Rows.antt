-- The rows of one table by their keys, lent by the log.
use Rattle.std.specs.Prelude.{◌≡◌, List, Option, Some, None, cond}
use Rattle.std.specs.BTreeMap.{is_at}
use Rattle.std.specs.FinMap as finite
use Rattle.std.specs.Map.{lookup}
use Rattle.std.specs.Option.{option_map}
use Rattle.rel_base.specs.declared.access.Read.{Read}
use Rattle.rel_base.specs.declared.access.Seen.{Seen}
use Rattle.rel_base.specs.declared.access.SeenRef.{SeenRef}
use Rattle.rel_base.specs.declared.schema.TableDef.{TableDef}
use Rattle.rel_base.specs.declared.value.Value.{Value}
use Rattle.rel_base.specs.Access.{covers_row, read_table}
use Rattle.rel_base.specs.Lent.{seen_lent}
use Rattle.rel_base.specs.Tables.{Tables}
use Rattle.rel_base.specs.Value.{key_cmp}

-- the row at a key
abbrev pub row_at : List (List Value × SeenRef) → List Value → Option Seen
row_at rows key = option_map seen_lent (lookup (is_at (key_cmp key)) rows)

-- a row that may be there, where a read covers it
abbrev pub covered_seen : TableDef → Read → Option Seen → Option Seen
covered_seen def read None = None
covered_seen def read (Some seen) = cond (covers_row def read seen.row) (Some seen) None

-- at each key is the row of the read's table in the tables, where the read covers it
abbrev pub AreRows : TableDef → Read → Tables → List (List Value × SeenRef) → Type 0
AreRows def read tables rows = (key : List Value) → row_at rows key ≡ covered_seen def read (finite.get tables (read_table read, key))
