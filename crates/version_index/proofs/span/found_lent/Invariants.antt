use Rattle.std.proofs.Common.{◌≡◌, ◌++◌, drop}
use Rattle.rel_base.specs.Lent.{lent_rows, rows_of}
use Rattle.rel_base.specs.Tables.{tables_at}
use Rattle.version_index.specs.Rows.{rows_of_keys}
use Rattle.version_index.specs.Span.{keys_in}
use Rattle.version_index.specs.View.{history_in}
use Rattle.version_index.proofs.span.found_lent.Given as goal

-- the rows so far and those of the keys that are left are the rows of all
abbrev pub invariant-loop-key : goal.invariant-loop-key
invariant-loop-key l =
    lent_rows l.rows.items ++ rows_of (rows_of_keys l.look.def.now l.look.read.now (tables_at l.look.height (history_in l.view)) l.view.table (keys_in (drop l.key-index l.found)))
    ≡ rows_of (rows_of_keys l.look.def.now l.look.read.now (tables_at l.look.height (history_in l.view)) l.view.table (keys_in l.found))
