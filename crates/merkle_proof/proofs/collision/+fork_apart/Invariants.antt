use Rattle.merkle_proof.proofs.collision.+fork_apart.Given as goal

abbrev pub decreases-fork_apart : goal.decreases-fork_apart
decreases-fork_apart l = l.level
