use Rattle.std.proofs.Common.{take, ◌≡◌}
use Rattle.bcdb.proofs.extract.digests_of.Given as goal
use Rattle.checkpoint.specs.Folded.{digests_of_results}

abbrev pub invariant-loop-block : goal.invariant-loop-block
invariant-loop-block l = l.digests ≡ digests_of_results (take l.block-index l.blocks)
