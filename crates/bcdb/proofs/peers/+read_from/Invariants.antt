use Rattle.bcdb.proofs.peers.+read_from.Given as goal

abbrev pub decreases-read_from : goal.decreases-read_from
decreases-read_from g l = l.left
