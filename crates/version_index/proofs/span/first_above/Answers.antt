use Rattle.std.proofs.Common.{◌-◌, arith, length}
use Rattle.version_index.proofs.Logged.{low_up_to}
use Rattle.version_index.proofs.span.first_above.Goals as goal

-- where the last write is low, all are
pub returns-then-entry_at-height-clause-low : goal.returns-then-entry_at-height-clause-low
returns-then-entry_at-height-clause-low c =
    let some = c.if-end-gt0.true in
    low_up_to c.args.entries.now c.args.height (length c.args.entries.now) (length c.args.entries.now - 1) c.entry_at.result.now (omega (arith, some)) c.requires.in_order c.entry_at.ensures c.if-entry_at-height.true
