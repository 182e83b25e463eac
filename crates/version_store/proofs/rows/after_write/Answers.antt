use Rattle.std.proofs.Common.{◌∙◌, sym}
use Rattle.row_sets.specs.Log.{stamped_of}
use Rattle.version_store.proofs.Found.{row_after, row_kept}
use Rattle.version_store.proofs.rows.after_write.Goals as goal

-- the row is the one that the write left
pub returns-then-is_seen : goal.returns-then-is_seen
returns-then-is_seen c tables are =
    c.row_left.ensures ∙ sym (row_after tables c.args.height (c.args.table, c.args.key.now) (stamped_of c.args.entry.now) (sym c.is_seen.ensures ∙ c.if-is_seen.true))

-- the row stays
pub returns-else-is_seen : goal.returns-else-is_seen
returns-else-is_seen c tables are =
    are ∙ sym (row_kept tables c.args.height (c.args.table, c.args.key.now) (stamped_of c.args.entry.now) (sym c.is_seen.ensures ∙ c.if-is_seen.false))
