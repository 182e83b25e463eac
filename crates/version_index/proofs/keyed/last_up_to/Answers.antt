use Rattle.version_index.proofs.Walked.{last_below, last_is_seen}
use Rattle.version_index.proofs.keyed.last_up_to.Goals as goal

pub entry_at-requires : goal.entry_at-requires
entry_at-requires c = last_below c.args.view.now.entries.now (c.args.view.now.table, c.args.key.now) c.in-Some.number (c.in-Some.ensures c.args.key.now c.requires.slot)

-- the last write of all is low, so it is the last of those that are
pub returns-then-entry_at-height : goal.returns-then-entry_at-height
returns-then-entry_at-height c =
    last_is_seen c.args.view.now.entries.now (c.args.view.now.table, c.args.key.now) c.args.height c.in-Some.number c.entry_at.result.now c.entry_at.ensures c.if-entry_at-height.true (c.in-Some.ensures c.args.key.now c.requires.slot)
