use Rattle.std.proofs.Common.{◌≡◌, drop}
use Rattle.std.specs.Prelude.{slice_get}
use Rattle.checkpoint.specs.Majority.{digests_at}
use Rattle.checkpoint.proofs.comparing.first_digest.Given as goal

abbrev pub invariant-loop-peer : goal.invariant-loop-peer
invariant-loop-peer l = slice_get (digests_at (drop l.peer-index l.peers) l.height) 0 ≡ slice_get (digests_at l.peers l.height) 0
