use Rattle.std.proofs.Common.{◌∙◌, sym}
use Rattle.row_sets.proofs.Endings.{on_ok_then}
use Rattle.row_sets.specs.Log.{stamped_of}
use Rattle.version_store.proofs.Found.{rows_other_step, rows_set_step}
use Rattle.version_store.proofs.rows.go_on.Goals as goal

-- a write of another table
pub returns-then-entry-table : goal.returns-then-entry-table
returns-then-entry-table c tables are =
    rows_other_step c.args.def.now c.args.read.now c.args.height tables c.args.rows.now.entries (stamped_of c.args.entry.now) (λ same. c.if-entry-table.true (same ∙ sym c.table.ensures)) are

-- a write of the table
pub returns : goal.returns
returns c =
    on_ok_then c.set_row.result
    (λ sets tables are. rows_set_step c.args.def.now c.args.read.now c.args.height tables c.args.rows.now.entries c.set_row.new.rows.entries (stamped_of c.args.entry.now) c.if-entry-height.false
    (c.if-entry-table.false ∙ c.table.ensures) are sets)
    c.set_row.ensures
