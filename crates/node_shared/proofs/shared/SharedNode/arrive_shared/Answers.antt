use Rattle.std.proofs.Common.{ap, rules, subst, sym, ◌∙◌, ◌≡◌}
use Rattle.turn_lock.specs.Passes.{mine, pass_base, pass_number, seen}
use Rattle.node_core.specs.Answers.{arrived_as}
use Rattle.node_core.specs.Core.{Arrives, Core}
use Rattle.node_model.specs.Steps.{ToArrive}
use Rattle.node_shared.specs.Turn.{IsFound}
use Rattle.node_shared.proofs.Turns.{call_adds, found_of, later_of, ok_map, own_of, step_adds, story_of, turn_of}
use mathlib.Core.List.{IsPrefix}
use Rattle.node_shared.proofs.shared.SharedNode.arrive_shared.Goals as goal

pub give-requires-clause-story : goal.give-requires-clause-story
give-requires-clause-story g c =
    let old = c.deref_mut-core.result.now in
    let same : old ≡ c.take-held.result.value = c.deref_mut-core.ensures.value in
    let new = c.arrive_shared-answer.new.self in
    let n = c.number-number.result in
    story_of _ old new n _ (c.take-held.ensures.seen ∙ sym (ap (λ (core : Core). core.journal) same)) (search rules)
    (call_adds (λ got. Arrives old n c.args.tx.now.value (arrived_as got) new) c.arrive_shared-answer.result old new n c.arrive_shared-answer.ensures.step c.arrive_shared-answer.ensures.err
    (λ got step. step_adds old new n (ToArrive step.shared) (arrived_as got) step.step))

pub returns-clause-later : goal.returns-clause-later
returns-clause-later g c =
    let old = c.deref_mut-core.result.now in
    let same : old ≡ c.take-held.result.value = c.deref_mut-core.ensures.value in
    let new = c.arrive_shared-answer.new.self in
    let n = c.number-number.result in
    later_of _ _ old new n (subst (λ (core : Core). IsPrefix (seen c.args.pass.now) core.journal) (sym same) c.take-held.ensures.later)
    (call_adds (λ got. Arrives old n c.args.tx.now.value (arrived_as got) new) c.arrive_shared-answer.result old new n c.arrive_shared-answer.ensures.step c.arrive_shared-answer.ensures.err
    (λ got step. step_adds old new n (ToArrive step.shared) (arrived_as got) step.step))
    c.give.ensures.seen

pub returns-clause-turn : goal.returns-clause-turn
returns-clause-turn g c =
    let p = c.args.pass.now in
    let old = c.deref_mut-core.result.now in
    let same : old ≡ c.take-held.result.value = c.deref_mut-core.ensures.value in
    let new = c.arrive_shared-answer.new.self in
    let n = c.number-number.result in
    let base : old.app ≡ pass_base p = ap (λ (core : Core). core.app) same ∙ c.take-held.ensures.base in
    let at : seen c.take-held.new.pass ≡ old.journal = c.take-held.ensures.seen ∙ sym (ap (λ (core : Core). core.journal) same) in
    let found : IsFound old.app (pass_number p) (seen p) (mine p) old.journal =
    found_of c.take-held.result.value old (pass_number p) (seen p) (mine p) same c.journal_len.ensures.legal c.take-held.ensures.later c.take-held.ensures.own in
    ok_map _ _ c.arrive_shared-answer.result c.arrive_shared-answer.ensures.step (λ got step.
    record {
      shared = step.shared;
      same = step.same;
      turn = turn_of p c.give.new.pass old new n base c.number-number.ensures.number found c.journal_len-2.ensures.legal c.give.ensures.seen (ToArrive step.shared) (arrived_as got) step.step
          (own_of old new n (pass_number p) (pass_base p) (seen c.take-held.new.pass) (mine c.take-held.new.pass) (mine c.give.new.pass) (mine p) (ToArrive step.shared) (arrived_as got) base c.number-number.ensures.number at c.take-held.ensures.mine step.step c.give.ensures.mine);
    })
