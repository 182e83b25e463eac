use Rattle.std.proofs.Common.{◌≡◌, ◌+◌, ◌-◌}
use Rattle.std.specs.List.{find, range_with_len}
use Rattle.checkpoint.specs.Majority.{are_apart, digests_at, first_apart, longest}
use Rattle.checkpoint.proofs.comparing.first_apart.Given as goal

abbrev pub invariant-loop-at : goal.invariant-loop-at
invariant-loop-at l = find (λ height. are_apart (digests_at l.peers height)) (range_with_len (l.at + 1) (longest l.peers - l.at)) ≡ first_apart l.peers
