use Rattle.std.proofs.Common.{ap, rules, subst, sym, ◌∙◌, ◌≡◌}
use Rattle.turn_lock.specs.Passes.{mine, pass_base, pass_number, seen}
use Rattle.node_core.specs.Answers.{claimed_as}
use Rattle.node_core.specs.Core.{Core, MayAsk, Steps}
use Rattle.node_model.specs.Steps.{ToClaim}
use Rattle.node_shared.specs.Turn.{IsFound}
use Rattle.node_shared.proofs.Turns.{call_adds, found_may, found_of, later_of, step_adds, story_of}
use mathlib.Core.List.{IsPrefix}
use Rattle.node_shared.proofs.shared.SharedNode.claim.Goals as goal

pub give-requires-clause-story : goal.give-requires-clause-story
give-requires-clause-story g c =
    let old = c.deref_mut-core.result.now in
    let same : old ≡ c.take-held.result.value = c.deref_mut-core.ensures.value in
    let new = c.claim-answer.new.self in
    let n = c.number-number.result in
    story_of _ old new n _ (c.take-held.ensures.seen ∙ sym (ap (λ (core : Core). core.journal) same)) (search rules)
    (call_adds (λ got. Steps old n (ToClaim c.args.pick) (claimed_as got) new) c.claim-answer.result old new n c.claim-answer.ensures.step c.claim-answer.ensures.err
    (λ got step. step_adds old new n (ToClaim c.args.pick) (claimed_as got) step))

pub returns-clause-later : goal.returns-clause-later
returns-clause-later g c =
    let old = c.deref_mut-core.result.now in
    let same : old ≡ c.take-held.result.value = c.deref_mut-core.ensures.value in
    let new = c.claim-answer.new.self in
    let n = c.number-number.result in
    later_of _ _ old new n (subst (λ (core : Core). IsPrefix (seen c.args.pass.now) core.journal) (sym same) c.take-held.ensures.later)
    (call_adds (λ got. Steps old n (ToClaim c.args.pick) (claimed_as got) new) c.claim-answer.result old new n c.claim-answer.ensures.step c.claim-answer.ensures.err
    (λ got step. step_adds old new n (ToClaim c.args.pick) (claimed_as got) step))
    c.give.ensures.seen

pub claim-answer-requires : goal.claim-answer-requires
claim-answer-requires g c =
    let p = c.args.pass.now in
    let s = c.deref_mut-core.result.now in
    let same : s ≡ c.take-held.result.value = c.deref_mut-core.ensures.value in
    let base : s.app ≡ pass_base p = ap (λ (core : Core). core.app) same ∙ c.take-held.ensures.base in
    let may : MayAsk (record { app = s.app; journal = seen p }) (pass_number p) (ToClaim c.args.pick) =
    subst (λ a. MayAsk (record { app = a; journal = seen p }) (pass_number p) (ToClaim c.args.pick)) (sym base) c.requires.free in
    let found : IsFound s.app (pass_number p) (seen p) (mine p) s.journal =
    found_of c.take-held.result.value s (pass_number p) (seen p) (mine p) same c.journal_len.ensures.legal c.take-held.ensures.later c.take-held.ensures.own in
    let later = found_may s.app (pass_number p) (seen p) (mine p) s.journal c.number-number.ensures.own found (ToClaim c.args.pick) may in
    record { free = subst (λ k. MayAsk (record { app = s.app; journal = s.journal }) k (ToClaim c.args.pick)) (sym c.number-number.ensures.number) later }
