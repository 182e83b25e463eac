use Rattle.std.proofs.Common.{ap, map, ◌∙◌}
use Rattle.block_work.proofs.WholeRows.{as_table, whole_rows}
use Rattle.block_work.proofs.listing.list_table.Goals as goal
use Rattle.rel_base.specs.Tables.{tables_at}
use Rattle.rel_base.specs.declared.access.Seen.{Seen}

pub returns : goal.returns
returns g c =
    ap (as_table c.args.number)
    (c.in_ok-rows_alone.ensures ∙ ap (map (λ (one : Seen). one.row)) c.in_ok-seen.ensures
    ∙ whole_rows (g.V.Versions.tables c.args.versions.now) c.args.def.now c.read_of_all-read.result c.args.number (tables_at c.args.height (g.V.Versions.history c.args.versions.now)) c.requires
    c.read_of_all-read.ensures.table c.read_of_all-read.ensures.covers)
