use Rattle.std.proofs.Common.{length, ◌≡◌}
use Rattle.block_digest.specs.Grammar.{are_apart}
use Rattle.block_digest.proofs.positions.are_apart.Given as goal

-- what is left decides
abbrev pub invariant-loop-rest : goal.invariant-loop-rest
invariant-loop-rest l = are_apart l.rest ≡ are_apart l.positions

abbrev pub decreases-loop-rest : goal.decreases-loop-rest
decreases-loop-rest l = length l.rest
