use Rattle.std.proofs.Common.{rules, ◌≡◌, [], ◌∷◌, Some}
use Rattle.turn_lock.proofs.Forks.{begins}
use Rattle.turn_lock.proofs.lock.TurnLock.new.Goals as goal

pub new-requires : goal.new-requires
new-requires g c =
    let items : c.push.new.self.items ≡ Some c.args.state ∷ [] = search rules in
    let about : c.of-about.result.value ≡ c.args.state = search rules in
    rw (items, about) (begins g.S.Storied.base g.S.Storied.story g.S.Storied.actor c.args.state c.requires.empty)
