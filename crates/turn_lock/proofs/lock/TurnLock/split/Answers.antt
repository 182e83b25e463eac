use Rattle.std.proofs.Common.{rules, ◌∙◌}
use Rattle.turn_lock.proofs.Forks.{splits}
use Rattle.turn_lock.proofs.lock.TurnLock.split.Goals as goal

pub split_seat-seat-requires : goal.split_seat-seat-requires
split_seat-seat-requires g c =
    let p = c.args.pass.now.stands in
    (search rules, search rules, splits _ _ _ _ _ (p.number_is ∙ c.requires.first) p.live c.requires.no_turn)
