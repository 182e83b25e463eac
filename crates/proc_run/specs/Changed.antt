-- The row that an update leaves at a key.
use Rattle.std.specs.Prelude.{ℕ, List, [], ◌∷◌, Result, Err, slice_get}
use Rattle.rel_base.specs.declared.schema.TableDef.{TableDef}
use Rattle.rel_base.specs.declared.value.Value.{Value}
use Rattle.proc_syntax.specs.declared.fault.Fault.TheVariants as fault
use Rattle.proc_syntax.specs.declared.run.Stop.{Stop}
use Rattle.proc_syntax.specs.declared.run.Stop.TheVariants as stop
use Rattle.proc_syntax.specs.Steps.{row_under, set_columns}
use Rattle.proc_syntax.specs.Values.{◌>>=◌, found}

-- the row with columns set, where the transaction sees one and it then fits
abbrev pub with_set : TableDef → List Value → List (ℕ × Value) → List (List Value) → Result (List Value) Stop
with_set def key changes [] = Err (stop.Fault fault.NoRow)
with_set def key changes (row ∷ rest) = found (row_under def key (set_columns row changes))

-- the same of a table by its number
abbrev pub changed_at : List TableDef → ℕ → List Value → List (ℕ × Value) → List (List Value) → Result (List Value) Stop
changed_at declared table key changes seen = found (slice_get declared table) >>= λ def. with_set def key changes seen
