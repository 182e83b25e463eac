use Rattle.std.proofs.Common.{◌≡◌, ◌+◌, ◌-◌, length}
use Rattle.std.specs.List.{find, range_with_len}
use Rattle.checkpoint.specs.Majority.{differs, digest_at, is_other, majority}
use Rattle.checkpoint.proofs.comparing.differs.Given as goal

abbrev pub invariant-loop-at : goal.invariant-loop-at
invariant-loop-at l = find (λ height. is_other (majority l.peers height) (digest_at l.peer height)) (range_with_len (l.at + 1) (length l.peer - l.at)) ≡ differs l.peers l.peer
