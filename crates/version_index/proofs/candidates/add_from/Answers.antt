use Rattle.std.proofs.Common.{◌+◌}
use Rattle.version_index.specs.Candidates.{IsOwnKeyOf, IsWrittenFrom}
use Rattle.version_index.proofs.Adding.{adds_then, adds_weaker}
use Rattle.version_index.proofs.Offered.{OwnBetween, own_between, own_next}
use Rattle.version_index.proofs.candidates.add_from.Goals as goal

pub loop-number-preserved : goal.loop-number-preserved
loop-number-preserved c =
    let view = c.args.view.now in
    adds_then view.index.now.chains c.args.found.now.items c.loop-number.found.items c.add_own.new.found.items (OwnBetween view c.args.start c.loop-number.number) (IsOwnKeyOf view c.loop-number.number)
    (OwnBetween view c.args.start (c.loop-number.number + 1)) (own_next view c.args.start c.loop-number.number) c.loop-number.invariant c.in_ok-add_own.ensures

pub returns : goal.returns
returns c =
    let view = c.args.view.now in
    adds_weaker view.index.now.chains c.args.found.now.items c.loop-number.found.items (OwnBetween view c.args.start c.loop-number.number) (IsWrittenFrom view c.args.start)
    (own_between view c.args.start c.loop-number.number c.loop-number-test.false) c.loop-number.invariant
