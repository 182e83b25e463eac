use Rattle.std.proofs.Common.{ap, subst, sym, ◌∙◌, ◌≡◌}
use Rattle.turn_lock.specs.Passes.{mine, pass_base, pass_number, seen}
use Rattle.node_core.specs.Answers.{got_as}
use Rattle.node_core.specs.Core.{Core, IsHeld, Steps}
use Rattle.node_model.specs.Steps.{ToRead}
use Rattle.node_shared.specs.Turn.{IsFound}
use Rattle.node_shared.proofs.Turns.{call_adds, core_same, err_map, found_held, found_of, later_of, look_of, ok_map, own_of, step_adds, turn_of}
use mathlib.Core.List.{IsPrefix}
use Rattle.node_shared.proofs.shared.SharedNode.read.Goals as goal

pub returns-clause-later : goal.returns-clause-later
returns-clause-later g c =
    let old = c.deref_mut-core.result.now in
    let same : old ≡ c.take-held.result.value = c.deref_mut-core.ensures.value in
    let new = c.read-answer.new.self in
    let n = c.args.work.now.actor in
    later_of _ _ old new n (subst (λ (core : Core). IsPrefix (seen c.args.pass.now) core.journal) (sym same) c.take-held.ensures.later)
    (call_adds (λ got. Steps old n (ToRead c.args.work.now.job) (got_as got) new) c.read-answer.result old new n c.read-answer.ensures.step (core_same _ _ c.read-answer.result c.read-answer.ensures.err)
    (λ got step. step_adds old new n (ToRead c.args.work.now.job) (got_as got) step))
    c.give.ensures.seen

pub read-answer-requires-clause-held : goal.read-answer-requires-clause-held
read-answer-requires-clause-held g c =
    let p = c.args.pass.now in
    let s = c.deref_mut-core.result.now in
    let same : s ≡ c.take-held.result.value = c.deref_mut-core.ensures.value in
    let base : s.app ≡ pass_base p = ap (λ (core : Core). core.app) same ∙ c.take-held.ensures.base in
    let held : IsHeld (record { app = s.app; journal = seen p }) c.args.work.now = subst (λ a. IsHeld (record { app = a; journal = seen p }) c.args.work.now) (sym base) c.requires.held in
    let found : IsFound s.app (pass_number p) (seen p) (mine p) s.journal =
    found_of c.take-held.result.value s (pass_number p) (seen p) (mine p) same c.journal_len.ensures.legal c.take-held.ensures.later c.take-held.ensures.own in
    found_held s.app (pass_number p) (seen p) (mine p) s.journal c.number.ensures.own found c.args.work.now c.requires.own held

pub returns-clause-turn : goal.returns-clause-turn
returns-clause-turn g c =
    let p = c.args.pass.now in
    let old = c.deref_mut-core.result.now in
    let same : old ≡ c.take-held.result.value = c.deref_mut-core.ensures.value in
    let new = c.read-answer.new.self in
    let n = c.args.work.now.actor in
    let base : old.app ≡ pass_base p = ap (λ (core : Core). core.app) same ∙ c.take-held.ensures.base in
    let at : seen c.take-held.new.pass ≡ old.journal = c.take-held.ensures.seen ∙ sym (ap (λ (core : Core). core.journal) same) in
    let found : IsFound old.app (pass_number p) (seen p) (mine p) old.journal =
    found_of c.take-held.result.value old (pass_number p) (seen p) (mine p) same c.journal_len.ensures.legal c.take-held.ensures.later c.take-held.ensures.own in
    ok_map _ _ c.read-answer.result c.read-answer.ensures.step (λ got step.
    turn_of p c.give.new.pass old new n base c.requires.own found c.journal_len-2.ensures.legal c.give.ensures.seen (ToRead c.args.work.now.job) (got_as got) step
    (own_of old new n (pass_number p) (pass_base p) (seen c.take-held.new.pass) (mine c.take-held.new.pass) (mine c.give.new.pass) (mine p) (ToRead c.args.work.now.job) (got_as got) base c.requires.own at c.take-held.ensures.mine step c.give.ensures.mine))

pub returns-clause-err : goal.returns-clause-err
returns-clause-err g c =
    let p = c.args.pass.now in
    let old = c.deref_mut-core.result.now in
    let same : old ≡ c.take-held.result.value = c.deref_mut-core.ensures.value in
    let new = c.read-answer.new.self in
    let base : old.app ≡ pass_base p = ap (λ (core : Core). core.app) same ∙ c.take-held.ensures.base in
    let at : seen c.take-held.new.pass ≡ old.journal = c.take-held.ensures.seen ∙ sym (ap (λ (core : Core). core.journal) same) in
    let found : IsFound old.app (pass_number p) (seen p) (mine p) old.journal =
    found_of c.take-held.result.value old (pass_number p) (seen p) (mine p) same c.journal_len.ensures.legal c.take-held.ensures.later c.take-held.ensures.own in
    err_map _ _ c.read-answer.result c.read-answer.ensures.err (λ kept.
    (look_of p c.give.new.pass old new base found c.give.ensures.seen kept.0 (c.give.ensures.no_news (ap (λ (core : Core). core.journal) kept.0 ∙ sym at) ∙ c.take-held.ensures.mine), kept.1))
