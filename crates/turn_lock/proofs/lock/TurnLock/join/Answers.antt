use Rattle.std.proofs.Common.{rules, ap, ◌∙◌}
use Rattle.turn_lock.specs.Standing.{slots_of}
use Rattle.turn_lock.proofs.Forks.{joins}
use Rattle.turn_lock.proofs.Moves.{looks_idle}
use Rattle.turn_lock.proofs.lock.TurnLock.join.Goals as goal

pub join_seat-requires : goal.join_seat-requires
join_seat-requires g c =
    let p = c.args.pass.now.stands in
    let q = c.args.other.stands in (
      search rules,
      search rules,
      q.slots ∙ ap slots_of c.requires.no_turn.1,
      search rules,
      joins _ _ _ _ _ _ _ (p.number_is ∙ c.requires.first) p.live c.requires.no_turn.0 p.untold p.settled q.live c.requires.no_turn.1 q.untold,
    )

pub load-requires : goal.load-requires
load-requires g c =
    let p = c.args.pass.now.stands in
    let view = ap (λ m. m.0) c.join_seat.ensures.2 in
    (search rules, search rules, looks_idle _ _ _ _ _ _ (ap (λ v. v.live) view ∙ p.live) (ap (λ v. v.stage) view ∙ c.requires.no_turn.0))
