-- The rows that a read gets, key by key.
use Rattle.std.specs.Prelude.{◌≡◌, ℕ, List, [], ◌∷◌, Option, Some, None, IfSome, cond, drop, find, slice_get}
use Rattle.std.specs.List.{flat_map}
use Rattle.std.specs.FinMap.{get}
use Rattle.rel_base.specs.declared.access.Read.{Read}
use Rattle.rel_base.specs.declared.access.Read.TheVariants.{Point, Span}
use Rattle.rel_base.specs.declared.access.Seen.{Seen}
use Rattle.rel_base.specs.declared.schema.TableDef.{TableDef}
use Rattle.rel_base.specs.declared.value.Value.{Value}
use Rattle.rel_base.specs.Access.{covers_row}
use Rattle.rel_base.specs.Tables.{Tables, Stamped, seen_at}
use Rattle.version_index.specs.Candidates.{only_value}
use Rattle.version_index.specs.Chain.{is_on}
use Rattle.version_index.specs.Heads.{head_of}

-- the row that a committed write leaves, with its place
abbrev pub seen_of : Stamped → Option Seen
seen_of stamped = seen_at stamped.0 stamped.1.pos stamped.1.write.after

-- a row that may be there, where a read covers it
abbrev pub covered_row : TableDef → Read → Option Seen → List Seen
covered_row def read None = []
covered_row def read (Some seen) = cond (covers_row def read seen.row) (seen ∷ []) []

-- the one value that a read looks for, where it has one
abbrev pub value_of : Read → Option Value
value_of (Point table key) = None
value_of (Span table column low high) = only_value low high

-- a value that may be given is the one that a read looks for
abbrev pub IsValueOf : Read → Option Value → Type 0
IsValueOf read given = IfSome given (λ value. value_of read ≡ Some value)

-- the rows of some keys of a table that a read covers, in the order of the keys
abbrev pub rows_of_keys : TableDef → Read → Tables → ℕ → List (List Value) → List Seen
rows_of_keys def read tables table keys = flat_map (λ key. covered_row def read (get tables (table, key))) keys

-- the write of a number that may be there
abbrev pub write_of : List Stamped → Option ℕ → Option Stamped
write_of history None = None
write_of history (Some number) = slice_get history number

-- a map names the first write on each key of a table among the writes from a number on
abbrev pub AreFirsts : ℕ → ℕ → List Stamped → List (List Value × Option ℕ) → Type 0
AreFirsts table start history heads = (key : List Value) → write_of history (head_of heads key) ≡ find (is_on (table, key)) (drop start history)
