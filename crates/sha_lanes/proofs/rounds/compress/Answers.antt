use Rattle.std.proofs.Common.{◌≡◌, ◌*◌, ap, arith, refl}
use Rattle.sha2.specs.Sha256.{add_state, compress, rounds}
use Rattle.sha_lanes.proofs.rounds.compress.Goals as goal

pub rounds-init : goal.rounds-init
unfolding rounds
rounds-init c = (refl, λ block keyed. refl)

pub returns : goal.returns
unfolding compress
returns c = λ block keyed.
    let done : 16 * c.rounds.turn ≡ 64 = omega arith in
    ap (add_state c.args.hash.now) (rw done at (c.rounds.invariant.1 block keyed))
