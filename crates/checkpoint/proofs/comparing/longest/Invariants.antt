use Rattle.std.proofs.Common.{◌≡◌, drop}
use Rattle.std.specs.Prelude.{max}
use Rattle.checkpoint.specs.Majority.{longest}
use Rattle.checkpoint.proofs.comparing.longest.Given as goal

abbrev pub invariant-loop-peer : goal.invariant-loop-peer
invariant-loop-peer l = max l.most (longest (drop l.peer-index l.peers)) ≡ longest l.peers
