use Rattle.merkle_proof.proofs.root.+root.Given as goal

abbrev pub decreases-root : goal.decreases-root
decreases-root l = l.level
