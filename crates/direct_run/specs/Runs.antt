-- How a run stands, as the meaning of code has it.
use Rattle.std.specs.Prelude.{◌≡◌, ℕ, List, Option, Some, None, Result, Err, slice_get, unwrap_or}
use Rattle.std.specs.FinMap as finite
use Rattle.rel_base.specs.declared.access.Read.TheVariants.{Point}
use Rattle.rel_base.specs.declared.schema.TableDef.{TableDef}
use Rattle.rel_base.specs.declared.value.Value.{Value}
use Rattle.rel_base.specs.OwnWrites.{Own, first_row}
use Rattle.rel_base.specs.Tables.{Tables, rows}
use Rattle.row_sets.specs.Overlay.{own_of}
use Rattle.proc_syntax.specs.declared.fault.Fault.TheVariants as fault
use Rattle.proc_syntax.specs.declared.run.Stop.{Stop}
use Rattle.proc_syntax.specs.declared.run.Stop.TheVariants as stop
use Rattle.proc_syntax.specs.Steps.{row_under, set_columns}
use Rattle.proc_syntax.specs.Values.{found}
use Rattle.proc_code.specs.Coded.{State}
use Rattle.direct_run.specs.Scope.{environment_of}
use Rattle.direct_run.specs.declared.looking.Table.{Table}
use Rattle.direct_run.specs.declared.state.Run.{Run}

abbrev pub state_of : Run → State
state_of run = record { environment = environment_of run.scope; own = own_of run.own; made = run.made.items; steps = run.steps }

-- a table of some that are declared, with its number
abbrev pub IsTable : List TableDef → Table → Type 0
IsTable declared table = slice_get declared table.number ≡ Some table.def.now

-- the row that a key has in the tables
abbrev pub row_at : TableDef → ℕ → List Value → Tables → Option (List Value)
row_at def table key tables = first_row (rows def (Point table key) tables)

-- the row that a run sees at a key
abbrev pub seen_at : Own → ℕ → List Value → Option (List Value) → Option (List Value)
seen_at own table key base = unwrap_or (finite.get own (table, key)) base

-- the row with columns set, where a run sees one and it then fits
abbrev pub with_set : TableDef → List Value → List (ℕ × Value) → Option (List Value) → Result (List Value) Stop
with_set def key changes None = Err (stop.Fault fault.NoRow)
with_set def key changes (Some row) = found (row_under def key (set_columns row changes))
