use Rattle.merkle_proof.proofs.climb.+climb.Given as goal

abbrev pub decreases-climb : goal.decreases-climb
decreases-climb l = l.level
