use Rattle.std.proofs.Common.{◌≡◌, length, take}
use Rattle.direct_run.specs.Sums.{BeginsWith}
use Rattle.direct_run.proofs.sums.sums_of.Given as goal

-- each statement so far is an assignment
abbrev pub invariant-loop-action : goal.invariant-loop-action
invariant-loop-action l = (l.action-index ≡ length l.sums.items) × BeginsWith l.turn.columns.now l.turn.slot l.turn.table (take l.action-index l.block) l.sums.items
