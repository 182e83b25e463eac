use Rattle.std.proofs.Common.{ap, subst, sym, ◌∙◌}
use Rattle.query_plan.proofs.Going.{prefix_more}
use Rattle.query_plan.specs.Walk.{MayBegin, holds_at_last}
use Rattle.query_plan.proofs.walk.enter.Goals as goal

pub returns-clause-goes : goal.returns-clause-goes
returns-clause-goes g c = λ goes.
    let asked = c.args.asked.now in
    let passes = holds_at_last asked.comparisons.now in
    subst (MayBegin asked.comparisons.now asked.steps.now) (sym c.in_ok-push.ensures.ok)
    (prefix_more asked.comparisons.now asked.steps.now c.args.prefix.now c.args.seen c.requires.prefix c.requires.more c.requires.seen
    (sym (ap (λ n. passes n c.as_slice.result.now) c.len-count.ensures ∙ ap (passes _) (c.as_slice.ensures ∙ c.in_ok-push.ensures.ok)) ∙ sym c.holds_at_last-goes.ensures ∙ goes))
