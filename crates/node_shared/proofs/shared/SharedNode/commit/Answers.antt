use Rattle.std.proofs.Common.{ap, rules, subst, sym, ◌∙◌, ◌≡◌}
use Rattle.turn_lock.specs.Passes.{seen}
use Rattle.node_core.specs.Answers.{decided_as}
use Rattle.node_core.specs.Core.{Core, Steps}
use Rattle.node_model.specs.Steps.{ToCommit}
use Rattle.node_shared.proofs.Turns.{call_adds, later_of, step_adds, story_of}
use mathlib.Core.List.{IsPrefix}
use Rattle.node_shared.proofs.shared.SharedNode.commit.Goals as goal

pub give-requires-clause-story : goal.give-requires-clause-story
give-requires-clause-story g c =
    let old = c.deref_mut-core.result.now in
    let same : old ≡ c.take-held.result.value = c.deref_mut-core.ensures.value in
    let new = c.commit-answer.new.self in
    let n = c.number-number.result in
    story_of _ old new n _ (c.take-held.ensures.seen ∙ sym (ap (λ (core : Core). core.journal) same)) (search rules)
    (call_adds (λ got. Steps old n ToCommit (decided_as got) new) c.commit-answer.result old new n c.commit-answer.ensures.step c.commit-answer.ensures.err
    (λ got step. step_adds old new n ToCommit (decided_as got) step))

pub returns-clause-later : goal.returns-clause-later
returns-clause-later g c =
    let old = c.deref_mut-core.result.now in
    let same : old ≡ c.take-held.result.value = c.deref_mut-core.ensures.value in
    let new = c.commit-answer.new.self in
    let n = c.number-number.result in
    later_of _ _ old new n (subst (λ (core : Core). IsPrefix (seen c.args.pass.now) core.journal) (sym same) c.take-held.ensures.later)
    (call_adds (λ got. Steps old n ToCommit (decided_as got) new) c.commit-answer.result old new n c.commit-answer.ensures.step c.commit-answer.ensures.err
    (λ got step. step_adds old new n ToCommit (decided_as got) step))
    c.give.ensures.seen
