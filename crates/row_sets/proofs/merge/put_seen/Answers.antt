use Rattle.std.proofs.Common.{◌∙◌}
use Rattle.rel_base.specs.Schema.{key_of_row}
use Rattle.row_sets.proofs.Entries.{key_put}
use Rattle.row_sets.proofs.merge.put_seen.Goals as goal

pub returns : goal.returns
returns c =
    rw (c.in_ok-key.ensures, c.in_ok-row.ensures) at c.in_ok-insert.ensures.entries ∙ key_put (key_of_row c.args.def.now c.args.seen.now.row) c.args.seen.now.row c.args.rows.now.entries
