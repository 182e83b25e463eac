use Rattle.std.proofs.Common.{◌∙◌}
use Rattle.row_sets.proofs.Entries.{key_put}
use Rattle.row_sets.proofs.merge.put_in.Goals as goal

pub returns : goal.returns
returns c = rw (c.in_ok-key.ensures, c.in_ok-row.ensures) at c.in_ok-insert.ensures.entries ∙ key_put c.args.key.now c.args.row.now c.args.rows.now.entries
