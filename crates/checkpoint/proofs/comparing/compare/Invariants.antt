use Rattle.std.proofs.Common.{◌≡◌, take}
use Rattle.std.specs.Prelude.{map}
use Rattle.checkpoint.specs.Majority.{differs}
use Rattle.checkpoint.proofs.comparing.compare.Given as goal

abbrev pub invariant-loop-peer : goal.invariant-loop-peer
invariant-loop-peer l = l.heights ≡ map (differs l.fn.peers) (take l.peer-index l.fn.peers)
