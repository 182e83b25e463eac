use Rattle.std.proofs.Common.{◌≡◌, ◌≤◌, take}
use Rattle.std.specs.List.{count_by}
use Rattle.checkpoint.specs.Majority.{digest_at, is_same}
use Rattle.checkpoint.proofs.comparing.holders.Given as goal

abbrev pub invariant-loop-peer : goal.invariant-loop-peer
invariant-loop-peer l = (l.held ≡ count_by (λ peer. is_same l.digest (digest_at peer l.height)) (take l.peer-index l.peers)) × (l.held ≤ l.peer-index)
