use Rattle.std.proofs.Common.{rules, sym, ap, ◌∙◌, ◌∷◌, Some}
use Rattle.atomic_table.specs.Table.{rest}
use Rattle.turn_lock.specs.Views.{after_look}
use Rattle.turn_lock.proofs.Entries.{enters, marks}
use Rattle.turn_lock.proofs.Moves.{looks_entered, takes_out}
use Rattle.turn_lock.proofs.lock.TurnLock.take.Goals as goal

pub compare_exchange-requires : goal.compare_exchange-requires
compare_exchange-requires g c = (search rules, search rules, enters _ _ _ _ _ _ c.loop.taken c.loop.invariant.4 c.loop.pass.stands.live)

pub compare_exchange-requires-then-looks-eq0 : goal.compare_exchange-requires-then-looks-eq0
compare_exchange-requires-then-looks-eq0 g c = (search rules, search rules, marks _ _ _ _ _ _)

pub load-requires : goal.load-requires
load-requires g c =
    let view = c.compare_exchange.ensures.2.got (search rules) in
    (search rules, search rules, looks_entered _ _ _ _ _ _ (ap (λ v. v.live) view ∙ c.loop.pass.stands.live) (ap (λ v. v.stage) view))

pub load-requires-then-compare_exchange-eq-FREE : goal.load-requires-then-compare_exchange-eq-FREE
load-requires-then-compare_exchange-eq-FREE g c =
    let view = c.compare_exchange.ensures.2.got (search rules) in
    let look = c.load.ensures.2.view in
    (search rules, search rules, takes_out _ _ _ _ _ _ (ap (λ v. v.live) look ∙ (ap (λ v. v.live) view ∙ c.loop.pass.stands.live)) (ap (λ v. v.stage) look ∙ ap after_look (ap (λ v. v.stage) view)))

pub exchange-requires : goal.exchange-requires
exchange-requires g c = let out = c.load-then-compare_exchange-eq-FREE.ensures.2 in (search rules, (Some out.value, out.slots ∙ ap (λ l. (0, Some out.value) ∷ rest l) (sym out.slots)))
