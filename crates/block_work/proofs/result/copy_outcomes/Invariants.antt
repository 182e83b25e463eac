use Rattle.std.proofs.Common.{drop, ◌++◌, ◌≡◌}
use Rattle.block_work.proofs.result.copy_outcomes.Given as goal

-- what is copied, with what is left, is the whole
abbrev pub invariant-loop-told : goal.invariant-loop-told
invariant-loop-told l = l.copies ++ drop l.told-index l.outcomes ≡ l.outcomes
