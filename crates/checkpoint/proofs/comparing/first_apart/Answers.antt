use Rattle.std.proofs.Common.{◌<◌, ◌∙◌, arith, sym}
use Rattle.checkpoint.specs.Majority.{are_apart, digests_at, longest}
use Rattle.checkpoint.proofs.Majorities.{find_next}
use Rattle.checkpoint.proofs.comparing.first_apart.Goals as goal

pub loop-at-preserved : goal.loop-at-preserved
loop-at-preserved c =
    let inside : c.loop-at.at < longest c.args.peers.now = omega (arith, c.loop-at-test.true, c.longest-at-end.ensures) in
    sym (find_next (λ height. are_apart (digests_at c.args.peers.now height)) c.loop-at.at (longest c.args.peers.now) inside (sym c.if-are_apart.ensures)) ∙ c.loop-at.invariant
