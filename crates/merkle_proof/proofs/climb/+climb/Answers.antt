use Rattle.std.proofs.Common.{arith, ◌∙◌, ap, sym}
use Rattle.sha2.specs.Sha256.{sha256}
use Rattle.merkle_proof.specs.Tree.{node_of}
use Rattle.merkle_proof.proofs.Ways.{left_long, left_root, one_less, right_long, right_root, room_is, way_some}
use Rattle.merkle_proof.proofs.climb.+climb.Goals as goal

pub split_last-requires : goal.split_last-requires
split_last-requires t c =
    let some = way_some c.args.level c.args.count c.args.index c.half_of-half.result (omega (arith, c.if-level-eq0.false)) c.half_of-half.ensures (omega (arith, c.if-count-half.false)) in
    omega (arith, some, c.requires.long)

pub climb-below-requires : goal.climb-below-requires
climb-below-requires t c =
    let long = left_long c.args.level c.args.count c.args.index c.half_of-half.result (omega (arith, c.if-level-eq0.false)) c.half_of-half.ensures
    (omega (arith, c.if-count-half.false)) (omega (arith, c.if-index-half.true)) in (
      omega (arith, c.if-level-eq0.false, c.decreases),
      (
        omega arith,
        (
          omega (arith, c.if-index-half.true),
          (
            omega (arith, c.half_of-half.ensures),
            one_less c.args.path.now c.split_last.result.0.now c.split_last.result.1.now _ _ c.split_last.ensures c.requires.long long,
          ),
        ),
      ),
    )

pub returns-then-index-half : goal.returns-then-index-half
returns-then-index-half t c =
    c.node.ensures ∙ ap (λ below. node_of sha256 below c.split_last.result.1.now) c.climb-below.ensures
    ∙ sym (left_root sha256 c.args.level c.args.count c.args.index c.half_of-half.result c.args.path.now c.split_last.result.1.now c.split_last.result.0.now c.args.leaf
    (omega (arith, c.if-level-eq0.false)) c.half_of-half.ensures (omega (arith, c.if-count-half.false)) (omega (arith, c.if-index-half.true)) c.split_last.ensures)

pub climb-below-requires-2 : goal.climb-below-requires-2
climb-below-requires-2 t c =
    let room = room_is c.args.level c.half_of-half.result (omega (arith, c.if-level-eq0.false)) c.half_of-half.ensures in
    let long = right_long c.args.level c.args.count c.args.index c.half_of-half.result (omega (arith, c.if-level-eq0.false)) c.half_of-half.ensures
    (omega (arith, c.if-count-half.false)) (omega (arith, c.if-index-half.false)) in (
      omega (arith, c.if-level-eq0.false, c.decreases),
      (
        omega arith,
        (
          omega (arith, c.if-index-half.false, c.requires.within),
          (
            omega (arith, room, c.half_of-half.ensures, c.requires.count),
            one_less c.args.path.now c.split_last.result.0.now c.split_last.result.1.now _ _ c.split_last.ensures c.requires.long long,
          ),
        ),
      ),
    )

pub returns : goal.returns
returns t c =
    c.node-2.ensures ∙ ap (λ below. node_of sha256 c.split_last.result.1.now below) c.climb-below-2.ensures
    ∙ sym (right_root sha256 c.args.level c.args.count c.args.index c.half_of-half.result c.args.path.now c.split_last.result.1.now c.split_last.result.0.now c.args.leaf
    (omega (arith, c.if-level-eq0.false)) c.half_of-half.ensures (omega (arith, c.if-count-half.false)) (omega (arith, c.if-index-half.false)) c.split_last.ensures)
