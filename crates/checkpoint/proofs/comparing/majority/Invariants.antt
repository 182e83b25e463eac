use Rattle.std.proofs.Common.{◌≡◌, drop}
use Rattle.std.specs.List.{find}
use Rattle.checkpoint.specs.Majority.{digests_at, is_majority, majority}
use Rattle.checkpoint.proofs.comparing.majority.Given as goal

abbrev pub invariant-loop-peer : goal.invariant-loop-peer
invariant-loop-peer l = find (is_majority l.fn.peers l.height) (digests_at (drop l.peer-index l.fn.peers) l.height) ≡ majority l.fn.peers l.height
