use Rattle.std.proofs.Common.{◌<◌, ◌∙◌, arith, length, sym}
use Rattle.checkpoint.specs.Majority.{digest_at, is_other, majority}
use Rattle.checkpoint.proofs.Majorities.{find_next}
use Rattle.checkpoint.proofs.comparing.differs.Goals as goal

pub loop-at-preserved : goal.loop-at-preserved
loop-at-preserved c =
    let inside : c.loop-at.at < length c.args.peer.now = omega (arith, c.loop-at-test.true, c.len-at-end.ensures) in
    sym (find_next (λ height. is_other (majority c.args.peers.now height) (digest_at c.args.peer.now height)) c.loop-at.at (length c.args.peer.now) inside (sym c.if-is_other.ensures)) ∙ c.loop-at.invariant
