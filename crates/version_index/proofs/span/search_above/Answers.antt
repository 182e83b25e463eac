use Rattle.std.proofs.Common.{◌+◌, ◌-◌, ◌/◌, arith}
use Rattle.version_index.proofs.Logged.{low_up_to}
use Rattle.version_index.proofs.span.search_above.Goals as goal

-- the writes up to one that is low are low
pub loop-start-preserved-then-entry_at-height : goal.loop-start-preserved-then-entry_at-height
loop-start-preserved-then-entry_at-height c =
    let inv = c.loop-start.invariant in
    let below = c.loop-start-test.true in
    let middle = c.loop-start.start + (c.loop-start.end - c.loop-start.start) / 2 in (
      omega (arith, below),
      inv.1,
      low_up_to c.args.entries.now c.args.height (middle + 1) middle c.entry_at.result.now (omega arith) c.requires.in_order c.entry_at.ensures c.if-entry_at-height.true,
    )
