use Rattle.std.proofs.Common.{◌⊎◌, List, subst, sym}
use Rattle.rel_base.specs.declared.value.Value.{Value}
use Rattle.version_index.specs.Candidates.{StandsBetween, key_end_of}
use Rattle.version_index.specs.Span.{HasKeyAt, IsLostBetween}
use Rattle.version_index.proofs.Adding.{adds_then, on_ok}
use Rattle.version_index.proofs.OnKeys.{key_found, living_own}
use Rattle.version_index.proofs.key_spans.add_by_key.Goals as goal

pub add_keys-requires-clause-own : goal.add_keys-requires-clause-own
add_keys-requires-clause-own c = living_own c.args.view.now.index.now.chains

-- a row is there still, or its key lost it since
pub returns : goal.returns
returns c =
    let view = c.args.view.now in
    let low = c.args.ends.low.now in
    let high = c.args.ends.high.now in
    let keys = c.in_ok-keys.keys in
    on_ok c.add_lost.result (adds_then view.index.now.chains c.args.found.now.items c.add_keys.new.found.items c.add_lost.new.found.items (StandsBetween view.index.now.chains.living.entries keys.low keys.high)
    (IsLostBetween view keys.low keys.high c.args.height) (HasKeyAt view low high c.args.height) either c.in_ok-add_keys.ensures) c.add_lost.ensures
  where
    either : (key : List Value) → HasKeyAt c.args.view.now c.args.ends.low.now c.args.ends.high.now c.args.height key
        → StandsBetween c.args.view.now.index.now.chains.living.entries c.in_ok-keys.keys.low c.in_ok-keys.keys.high key ⊎ IsLostBetween c.args.view.now c.in_ok-keys.keys.low c.in_ok-keys.keys.high c.args.height key
    either key wanted =
        let view = c.args.view.now in
        let living = view.index.now.chains.living.entries in
        subst (λ low. StandsBetween living low c.in_ok-keys.keys.high key ⊎ IsLostBetween view low c.in_ok-keys.keys.high c.args.height key) (sym c.in_ok-keys.ensures.low)
        (subst (λ high. StandsBetween living (key_end_of c.args.ends.low.now) high key ⊎ IsLostBetween view (key_end_of c.args.ends.low.now) high c.args.height key) (sym c.in_ok-keys.ensures.high)
        (key_found view c.requires.view c.args.height c.args.ends.low.now c.args.ends.high.now key wanted))
