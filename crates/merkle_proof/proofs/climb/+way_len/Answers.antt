use Rattle.std.proofs.Common.{arith}
use Rattle.merkle_proof.proofs.Ways.{left_long, right_long, room_is}
use Rattle.merkle_proof.proofs.climb.+way_len.Goals as goal

pub way_len-requires-else-index-half : goal.way_len-requires-else-index-half
way_len-requires-else-index-half t c =
    let room = room_is c.args.level c.half_of-half.result (omega (arith, c.if-level-eq0.false)) c.half_of-half.ensures in
    grind (arith, room, c.half_of-half.ensures, c.if-level-eq0.false, c.if-index-half.false, c.if-count-half.false)

pub returns-then-index-half-clause-way : goal.returns-then-index-half-clause-way
returns-then-index-half-clause-way t c =
    let long = left_long c.args.level c.args.count c.args.index c.half_of-half.result (omega (arith, c.if-level-eq0.false)) c.half_of-half.ensures
    (omega (arith, c.if-count-half.false)) (omega (arith, c.if-index-half.true)) in omega (arith, long, c.way_len-then-index-half.ensures.way)

pub returns-else-index-half-clause-way : goal.returns-else-index-half-clause-way
returns-else-index-half-clause-way t c =
    let long = right_long c.args.level c.args.count c.args.index c.half_of-half.result (omega (arith, c.if-level-eq0.false)) c.half_of-half.ensures
    (omega (arith, c.if-count-half.false)) (omega (arith, c.if-index-half.false)) in omega (arith, long, c.way_len-else-index-half.ensures.way)
