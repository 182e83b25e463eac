use Rattle.std.proofs.Common.{◌≡◌, drop}
use Rattle.std.specs.List.{list_any}
use Rattle.std.specs.Prelude.{not}
use Rattle.std.specs.Str.{bytes_eq}
use Rattle.checkpoint.specs.Majority.{digests_at}
use Rattle.checkpoint.proofs.comparing.has_others.Given as goal

abbrev pub invariant-loop-peer : goal.invariant-loop-peer
invariant-loop-peer l = list_any (λ own. not (bytes_eq l.digest own)) (digests_at (drop l.peer-index l.peers) l.height) ≡ list_any (λ own. not (bytes_eq l.digest own)) (digests_at l.peers l.height)
