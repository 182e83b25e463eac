use Rattle.std.proofs.Common.{◌≡◌, ◌+◌, ◌++◌, drop}
use Rattle.checkpoint.specs.Printed.{peers_text}
use Rattle.checkpoint.proofs.printed.push_peers.Given as goal

abbrev pub invariant-loop-at : goal.invariant-loop-at
invariant-loop-at l = l.out.items ++ peers_text (l.at + 1) (drop l.at l.peers) (drop l.at l.heights) ≡ l.fn.out.items ++ peers_text 1 l.peers l.heights
