use Rattle.version_index.specs.Candidates.{IsWrittenFrom, StandsBetween}
use Rattle.version_index.specs.Span.{IsChangedAbove, IsLostBetween}
use Rattle.version_index.proofs.Adding.{adds_then, adds_weaker, on_ok}
use Rattle.version_index.proofs.OnKeys.{ended_own}
use Rattle.version_index.proofs.key_spans.add_lost.Goals as goal

pub add_keys-requires-clause-own : goal.add_keys-requires-clause-own
add_keys-requires-clause-own c = ended_own c.args.view.now.index.now.chains c.requires.view.index.chains.apart

pub returns-then-has_more : goal.returns-then-has_more
returns-then-has_more c =
    let view = c.args.view.now in
    on_ok c.add_above.result (adds_weaker view.index.now.chains c.args.found.now.items c.add_above.new.found.items (IsChangedAbove view c.args.height)
    (IsLostBetween view c.args.ends.now.low c.args.ends.now.high c.args.height) (λ key lost. lost.0)) c.add_above.ensures

pub returns : goal.returns
returns c =
    let view = c.args.view.now in
    on_ok c.add_from.result (adds_then view.index.now.chains c.args.found.now.items c.add_keys.new.found.items c.add_from.new.found.items
    (StandsBetween view.index.now.chains.ended.entries c.args.ends.now.low c.args.ends.now.high) (IsWrittenFrom view view.noted) (IsLostBetween view c.args.ends.now.low c.args.ends.now.high c.args.height) (λ key lost. lost.1)
    c.in_ok-add_keys.ensures) c.add_from.ensures
