use Rattle.std.proofs.Common.{drop, ◌++◌, ◌≡◌}
use Rattle.node_model.specs.Fold.{all_rows}
use Rattle.block_work.proofs.listing.list_tables.Given as goal
use Rattle.rel_base.specs.Tables.{tables_at}

-- what is made, with what is left, is the whole
abbrev pub invariant-loop-number : goal.invariant-loop-number
invariant-loop-number g l =
    l.listed ++ all_rows (tables_at l.height (g.V.Versions.history l.versions)) l.number (drop l.number l.tables)
    ≡ all_rows (tables_at l.height (g.V.Versions.history l.versions)) 0 l.tables
