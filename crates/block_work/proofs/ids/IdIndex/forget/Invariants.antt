use Rattle.std.proofs.Common.{take}
use Rattle.block_work.proofs.ids.IdIndex.forget.Given as goal
use Rattle.block_work.specs.Ids.{Forgets}

-- the ids of the outcomes so far are forgotten
abbrev pub invariant-loop-told : goal.invariant-loop-told
invariant-loop-told l = Forgets l.fn.self l.self l.number (take l.told-index l.outcomes)
