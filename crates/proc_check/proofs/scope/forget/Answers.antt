use Rattle.std.proofs.Common.{Some, ap, sym, ◌∙◌}
use Rattle.proc_check.proofs.Places.{forgot_first, forgot_later, has_last, not_own}
use Rattle.proc_check.proofs.scope.forget.Goals as goal

pub returns-then-first-place : goal.returns-then-first-place
returns-then-first-place c before counted has =
    forgot_first c.args.places.now c.remove.new.self before c.args.last.now c.args.place (sym c.in-Some.ensures ∙ ap Some c.if-first-place.true) c.remove.ensures.updates counted has

pub returns-else-first-place : goal.returns-else-first-place
returns-else-first-place c before counted has =
    forgot_later c.args.places.now before c.args.last.now (not_own c.in-Some.first c.args.place counted c.if-first-place.false (sym c.in-Some.ensures)) has

-- the last variable has a place
pub returns-in_default : goal.returns-in_default
returns-in_default c before counted has = absurd (has_last c.args.places.now before c.args.last.now has (sym c.place_of.ensures ∙ c.in_default.is))
