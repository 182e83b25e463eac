use Rattle.std.proofs.Common.{arith, length, subst, sym, take, ◌-◌, ◌∙◌, ◌≡◌}
use Rattle.std.proofs.lemmas.List.{take_all}
use Rattle.node_core.proofs.Quiet.{StandBefore, before_first, none_above}
use Rattle.node_core.specs.Waiting.{WaitAbove}
use Rattle.node_core.proofs.bounds.count_passed.Goals as goal

pub overflow_sub-result : goal.overflow_sub-result
overflow_sub-result c =
    let before : StandBefore c.args.height 1 c.in-Some.number c.args.rows.now = before_first c.args.height 1 c.in-Some.number c.args.rows.now (sym c.in-Some.is ∙ c.requires) in
    omega (arith, before.at)

pub returns-in-None-clause-above : goal.returns-in-None-clause-above
returns-in-None-clause-above c =
    subst (WaitAbove c.args.height) (sym (take_all (length c.args.rows.now) c.args.rows.now (omega arith))) (none_above c.args.height 1 c.args.rows.now (sym c.in-None.is ∙ c.requires))

pub returns-in-Some-clause-within : goal.returns-in-Some-clause-within
returns-in-Some-clause-within c =
    let before : StandBefore c.args.height 1 c.in-Some.number c.args.rows.now = before_first c.args.height 1 c.in-Some.number c.args.rows.now (sym c.in-Some.is ∙ c.requires) in
    omega (arith, before.at, before.within)

pub returns-in-Some-clause-above : goal.returns-in-Some-clause-above
returns-in-Some-clause-above c =
    let before : StandBefore c.args.height 1 c.in-Some.number c.args.rows.now = before_first c.args.height 1 c.in-Some.number c.args.rows.now (sym c.in-Some.is ∙ c.requires) in
    let place : before.count ≡ c.in-Some.number - 1 = omega (arith, before.at) in
    subst (λ n. WaitAbove c.args.height (take n c.args.rows.now)) place before.above
