use Rattle.std.proofs.Common.{◌≡◌, drop}
use Rattle.std.specs.FinMap.{get}
use Rattle.std.specs.Option.{option_map}
use Rattle.rel_base.specs.Lent.{seen_lent}
use Rattle.rel_base.specs.Tables.{Tables, set_stamped, tables_at, writes_up_to}
use Rattle.row_sets.specs.Log.{history_of}
use Rattle.version_store.proofs.rows.row_of_key.Given as goal

-- the row is that of tables that the writes that are left make the tables at the height
abbrev pub invariant-loop-number : goal.invariant-loop-number
invariant-loop-number l =
    (tables : Tables) × (option_map seen_lent l.row ≡ get tables (l.table, l.key)) × (set_stamped tables (writes_up_to l.height (drop l.number (history_of l.log))) ≡ tables_at l.height (history_of l.log))
