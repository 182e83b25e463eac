use Rattle.std.proofs.Common.{◌≡◌, ℕ, sym, ap, ◌∙◌, Some}
use mathlib.Core.Option.{some-injective}
use lib.ListN.{get_elem?}
use Rattle.rel_base.specs.Stories.{entries_of}
use Rattle.turn_lock.proofs.Bases.{base_some}
use Rattle.turn_lock.proofs.Forks.{closes}
use Rattle.turn_lock.proofs.lock.TurnLock.close.Goals as goal

pub unreachable-requires : goal.unreachable-requires
unreachable-requires g c =
    let p = c.args.pass.stands in
    let fin = c.close_with-closed.ensures.values.2 in
    let e = closes g.S.Storied.base g.S.Storied.story g.S.Storied.actor fin.0 fin.1.0 _ _ fin.1.1 (p.number_is ∙ c.requires.first) p.live c.requires.no_turn p.untold p.settled c.requires.joined in
    let there = fin.4 0 (Some e.0) (ap (λ h. get_elem? h 0) e.1) in
    let is : Some e.0 ≡ c.take-value.result = some-injective _ _ (sym there ∙ c.take-value.ensures.value) in
    let bad = is ∙ c.in-None.is in cc

pub returns-clause-base : goal.returns-clause-base
returns-clause-base g c =
    let p = c.args.pass.stands in
    let fin = c.close_with-closed.ensures.values.2 in
    let e = closes g.S.Storied.base g.S.Storied.story g.S.Storied.actor fin.0 fin.1.0 _ _ fin.1.1 (p.number_is ∙ c.requires.first) p.live c.requires.no_turn p.untold p.settled c.requires.joined in
    let there = fin.4 0 (Some e.0) (ap (λ h. get_elem? h 0) e.1) in
    let is : Some e.0 ≡ c.take-value.result = some-injective _ _ (sym there ∙ c.take-value.ensures.value) in
    let same : e.0 ≡ c.in-Some.state = cc (is ∙ c.in-Some.is) in
    base_some _ p.based _ (e.3 ∙ ap (λ x. Some (g.S.Storied.base x)) same)

pub returns-clause-story : goal.returns-clause-story
returns-clause-story g c =
    let p = c.args.pass.stands in
    let fin = c.close_with-closed.ensures.values.2 in
    let e = closes g.S.Storied.base g.S.Storied.story g.S.Storied.actor fin.0 fin.1.0 _ _ fin.1.1 (p.number_is ∙ c.requires.first) p.live c.requires.no_turn p.untold p.settled c.requires.joined in
    let there = fin.4 0 (Some e.0) (ap (λ h. get_elem? h 0) e.1) in
    let is : Some e.0 ≡ c.take-value.result = some-injective _ _ (sym there ∙ c.take-value.ensures.value) in
    let same : e.0 ≡ c.in-Some.state = cc (is ∙ c.in-Some.is) in
    ap g.S.Storied.story (sym same) ∙ e.2

pub returns-clause-own : goal.returns-clause-own
returns-clause-own g c =
    let p = c.args.pass.stands in
    let fin = c.close_with-closed.ensures.values.2 in
    let e = closes g.S.Storied.base g.S.Storied.story g.S.Storied.actor fin.0 fin.1.0 _ _ fin.1.1 (p.number_is ∙ c.requires.first) p.live c.requires.no_turn p.untold p.settled c.requires.joined in
    let there = fin.4 0 (Some e.0) (ap (λ h. get_elem? h 0) e.1) in
    let is : Some e.0 ≡ c.take-value.result = some-injective _ _ (sym there ∙ c.take-value.ensures.value) in
    let same : e.0 ≡ c.in-Some.state = cc (is ∙ c.in-Some.is) in
    ap (entries_of g.S.Storied.actor 0) (ap g.S.Storied.story (sym same) ∙ e.2) ∙ (ap (λ (k : ℕ). entries_of g.S.Storied.actor k c.args.pass.seat.me.0.seen) (sym c.requires.first) ∙ p.own)

pub returns-clause-others : goal.returns-clause-others
returns-clause-others g c = λ number apart.
    let p = c.args.pass.stands in
    let fin = c.close_with-closed.ensures.values.2 in
    let e = closes g.S.Storied.base g.S.Storied.story g.S.Storied.actor fin.0 fin.1.0 _ _ fin.1.1 (p.number_is ∙ c.requires.first) p.live c.requires.no_turn p.untold p.settled c.requires.joined in
    let there = fin.4 0 (Some e.0) (ap (λ h. get_elem? h 0) e.1) in
    let is : Some e.0 ≡ c.take-value.result = some-injective _ _ (sym there ∙ c.take-value.ensures.value) in
    let same : e.0 ≡ c.in-Some.state = cc (is ∙ c.in-Some.is) in
    ap (λ value. entries_of g.S.Storied.actor number (g.S.Storied.story value)) (sym same) ∙ e.4 number apart
