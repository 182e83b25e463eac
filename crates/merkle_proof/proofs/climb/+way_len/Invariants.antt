use Rattle.merkle_proof.proofs.climb.+way_len.Given as goal

abbrev pub decreases-way_len : goal.decreases-way_len
decreases-way_len l = l.level
