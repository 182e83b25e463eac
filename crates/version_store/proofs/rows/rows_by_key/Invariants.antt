use Rattle.std.proofs.Common.{◌≡◌, drop}
use Rattle.rel_base.specs.Tables.{Tables, set_stamped, tables_at, writes_up_to}
use Rattle.row_sets.specs.Log.{history_of}
use Rattle.version_store.specs.Rows.{AreRows}
use Rattle.version_store.proofs.rows.rows_by_key.Given as goal

-- the rows are those of tables that the writes that are left make the tables at the height
abbrev pub invariant-loop-number : goal.invariant-loop-number
invariant-loop-number l =
    (tables : Tables) × AreRows l.def l.read tables l.rows.entries × (set_stamped tables (writes_up_to l.height (drop l.number (history_of l.log))) ≡ tables_at l.height (history_of l.log))
