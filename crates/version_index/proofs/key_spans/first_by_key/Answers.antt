use Rattle.std.proofs.Common.{◌∙◌, None, subst, sym}
use Rattle.row_sets.specs.Watched.{is_watched}
use Rattle.version_index.specs.Candidates.{key_end_of}
use Rattle.version_index.specs.Hits.{IsOnKeyBetween, Lowers}
use Rattle.version_index.specs.Numbers.{passes_at}
use Rattle.version_index.specs.View.{history_in}
use Rattle.version_index.proofs.Lowering.{first_of_lowers}
use Rattle.version_index.proofs.OnKeys.{watched_on_key}
use Rattle.version_index.proofs.Watching.{watched_backward}
use Rattle.version_index.proofs.key_spans.first_by_key.Goals as goal

-- nothing lies between ends of which one is above the other
pub returns-then-not-is_in_order : goal.returns-then-not-is_in_order
returns-then-not-is_in_order c =
    watched_backward c.args.watch.now c.args.view.now c.args.column c.args.low.now c.args.high.now c.requires.watch c.requires.span (sym c.is_in_order.ensures ∙ c.if-not-is_in_order.true)

-- a hit stands in the tail or on a key between the ends
pub returns-in-Ok : goal.returns-in-Ok
returns-in-Ok c =
    let view = c.args.view.now in
    let watch = c.args.watch.now in
    let low = c.args.low.now in
    let high = c.args.high.now in
    first_of_lowers (is_watched watch) (history_in view) c.first_between_keys.result (IsOnKeyBetween view (key_end_of low) (key_end_of high))
    (watched_on_key view c.requires.view watch c.args.column low high c.requires.watch c.requires.span c.requires.none)
    (subst (λ end. Lowers (passes_at (is_watched watch) (history_in view)) None c.first_between_keys.result (IsOnKeyBetween view end (key_end_of high))) c.in-Ok.ensures.low
    (subst (λ end. Lowers (passes_at (is_watched watch) (history_in view)) None c.first_between_keys.result (IsOnKeyBetween view c.in-Ok.ends.low end)) c.in-Ok.ensures.high c.first_between_keys.ensures))
