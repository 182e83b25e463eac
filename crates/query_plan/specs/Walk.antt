-- The tuples that begin with some rows, and the comparisons that can be tested of these rows.
use Rattle.std.specs.Prelude.{◌≡◌, ℕ, List, [], ◌∷◌, ◌++◌, map, Bool, true, false, not, ◌||◌, length, drop, All, Option, Some, None, Result, Ok, Err, slice_get, ◌+◌, ◌<◌, ◌≤◌}
use Rattle.std.specs.FinMap as finite
use Rattle.std.specs.List.{filter, flat_map, list_all}
use Rattle.rel_base.specs.Access.{covers_row, read_table}
use Rattle.rel_base.specs.Among.{ReadFitsIn}
use Rattle.rel_base.specs.Tables.{Tables}
use Rattle.query_plan.specs.Cells.{IsEarly}
use Rattle.query_plan.specs.Fits.{StepFits}
use Rattle.query_plan.specs.Ready.{is_ready}
use Rattle.query_plan.specs.declared.access.Step.{Step}
use Rattle.rel_base.specs.declared.access.Read.{Read}
use Rattle.rel_base.specs.declared.access.Seen.{Seen}
use Rattle.rel_base.specs.declared.schema.TableDef.{TableDef}
use Rattle.rel_base.specs.declared.value.Value.{Value}
use Rattle.query_plan.specs.declared.fault.WalkFault.{WalkFault}
use Rattle.query_plan.specs.declared.fault.WalkFault.TheVariants as fault
use Rattle.query_plan.specs.declared.select.Col.{Col}
use Rattle.query_plan.specs.Tuples.{at, choices, holds, holds_all, table_rows}
use Rattle.query_plan.specs.declared.select.Comparison.{Comparison}
use Rattle.query_plan.specs.Limits.{most_tuples}

-- the tuples that begin with some rows and go on with a row of each of some sources
abbrev pub extended : Tables → List Comparison → List Seen → List ℕ → List (List Seen)
extended tables comparisons prefix sources = filter (holds_all comparisons) (map (λ tuple. prefix ++ tuple) (choices (map (table_rows tables) sources)))

-- each comparison that speaks of the first sources alone holds of their rows
abbrev pub holds_so_far : List Comparison → ℕ → List Seen → Bool
holds_so_far comparisons count prefix = list_all (λ c. not (is_ready count c) || holds prefix c) comparisons

-- a comparison that speaks of the last of these sources, and of none after it, holds
abbrev pub passes : ℕ → List Seen → Comparison → Bool
passes count prefix c = not (is_ready (count + 1) c) || (is_ready count c || holds prefix c)

-- each of these holds
abbrev pub holds_at_last : List Comparison → ℕ → List Seen → Bool
holds_at_last comparisons count prefix = list_all (passes count prefix) comparisons

-- the row of a tuple: its fields that are asked for
abbrev pub plain_row : List Col → List Seen → List Value
plain_row columns tuple = map (at tuple) columns

-- rows were added, and there are not too many; or there would be
abbrev pub Walks : Result (Unit {0}) WalkFault → List (List Value) → List (List Value) → List (List Value) → Type 0
Walks (Ok _) old new added = (new ≡ old ++ added) × (length new ≤ most_tuples)
Walks (Err fault.NoMemory) old new added = Unit {0}
Walks (Err fault.TooMany) old new added = most_tuples < length (old ++ added)

-- these are all rows, and there are not too many; or there would be
abbrev pub Gathers : Result (List (List Value)) WalkFault → List (List Value) → Type 0
Gathers (Ok rows) all = (rows ≡ all) × (length all ≤ most_tuples)
Gathers (Err fault.NoMemory) all = Unit {0}
Gathers (Err fault.TooMany) all = most_tuples < length all

-- whether a read of declared tables covers a row
abbrev pub covers_by : Option TableDef → Read → List Value → Bool
covers_by None read row = false
covers_by (Some def) read row = covers_row def read row

abbrev pub covers_in : List TableDef → Read → List Value → Bool
covers_in defs read row = covers_by (slice_get defs (read_table read)) read row

-- a read leaves out no row with which the comparisons hold
pub record IsWide (defs : List TableDef) (comparisons : List Comparison) (prefix : List Seen) (read : Read) : Type 0 where
  pub covers : (row : Seen) → holds_so_far comparisons (length prefix + 1) (prefix ++ row ∷ []) ≡ true → covers_in defs read row.row ≡ true

-- a read of a table that fits it, and leaves out no row with which the comparisons hold
pub record IsReadOf (defs : List TableDef) (table : ℕ) (comparisons : List Comparison) (prefix : List Seen) (read : Read) : Type 0 where
  pub of_table : read_table read ≡ table
  pub fits : ReadFitsIn defs read
  pub wide : IsWide defs comparisons prefix read

-- the rows of the tuples that begin with some rows
unfoldable pub going_on : Tables → List Comparison → List Col → List ℕ → List Seen → List (List Value)
going_on tables comparisons columns sources prefix = map (plain_row columns) (extended tables comparisons prefix (drop (length prefix) sources))

-- the rows of the tuples that begin with some rows and go on with one of these
unfoldable pub going_by : Tables → List Comparison → List Col → List ℕ → List Seen → List Seen → List (List Value)
going_by tables comparisons columns sources prefix rows =
    map (plain_row columns) (flat_map (λ row. extended tables comparisons (prefix ++ row ∷ []) (drop (length prefix + 1) sources)) rows)

-- the tables of some sources
abbrev pub tables_of : List Step → List ℕ
tables_of steps = map (λ step. step.table) steps

-- a query may be asked of tables: its sources are declared and few, its comparisons speak of them, and the rows have blocks that are ints
pub record CanAsk (defs : List TableDef) (tables : Tables) (comparisons : List Comparison) (steps : List Step) : Type 0 where
  pub fits : All (StepFits defs) steps
  pub few : length steps ≤ 4
  pub ready : list_all (is_ready (length steps)) comparisons ≡ true
  pub early : All (λ entry. IsEarly entry.1) (finite.entries tables)

-- rows begin tuples: no comparison that speaks of them alone fails
pub record MayBegin (comparisons : List Comparison) (steps : List Step) (prefix : List Seen) : Type 0 where
  pub within : length prefix ≤ length steps
  pub early : All IsEarly prefix
  pub held : holds_so_far comparisons (length prefix) prefix ≡ true
