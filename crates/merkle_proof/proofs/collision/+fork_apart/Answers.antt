use Rattle.std.proofs.Common.{arith, length, refl, reverse, ◌≡◌, ◌-◌, ◌∙◌, ap, sym}
use Rattle.sha2.specs.Sha256.{sha256}
use Rattle.merkle_proof.specs.Proofs.{leaves_of}
use Rattle.merkle_proof.specs.Shape.{shape, turns}
use Rattle.merkle_proof.specs.Tree.{climb, leaf_of}
use Rattle.merkle_proof.proofs.Apart.{back_code, front_code, leads_below, left_same, right_same}
use Rattle.merkle_proof.proofs.Halves.{back_leaves, back_rows, front_leaves, front_rows}
use Rattle.merkle_proof.proofs.Ways.{left_long, one_less, right_long, room_is, way_some}
use Rattle.merkle_proof.proofs.collision.+fork_apart.Goals as goal

pub root-requires-2-clause-few : goal.root-requires-2-clause-few
root-requires-2-clause-few t c =
    let room = room_is c.args.level c.half_of-half.result (omega (arith, c.if-level-eq0.false)) c.half_of-half.ensures in
    omega (arith, room, c.half_of-half.ensures, c.split_at.ensures.back_len, c.requires.few)

pub split_last-requires : goal.split_last-requires
split_last-requires t c =
    let some = way_some c.args.level (length c.args.writes.now) c.args.index c.half_of-half.result (omega (arith, c.if-level-eq0.false)) c.half_of-half.ensures (omega (arith, c.if-writes-half.false)) in
    omega (arith, some, c.requires.long)

-- ---- to the left

pub climb-below-requires-clause-long : goal.climb-below-requires-clause-long
climb-below-requires-clause-long t c =
    one_less c.args.path.now c.split_last.result.0.now c.split_last.result.1.now (length (turns (shape c.args.level (length c.args.writes.now)) c.args.index)) (length (turns (shape (c.args.level - 1) c.half_of-half.result) c.args.index)) c.split_last.ensures c.requires.long
    (left_long c.args.level (length c.args.writes.now) c.args.index c.half_of-half.result (omega (arith, c.if-level-eq0.false)) c.half_of-half.ensures (omega (arith, c.if-writes-half.false)) (omega (arith, c.if-index-half.true)))

pub fork_apart-requires-then-are_equal : goal.fork_apart-requires-then-are_equal
fork_apart-requires-then-are_equal t c =
    let long = one_less c.args.path.now c.split_last.result.0.now c.split_last.result.1.now (length (turns (shape c.args.level (length c.args.writes.now)) c.args.index)) (length (turns (shape (c.args.level - 1) c.half_of-half.result) c.args.index)) c.split_last.ensures c.requires.long
    (left_long c.args.level (length c.args.writes.now) c.args.index c.half_of-half.result (omega (arith, c.if-level-eq0.false)) c.half_of-half.ensures (omega (arith, c.if-writes-half.false)) (omega (arith, c.if-index-half.true))) in (
      omega (arith, c.if-level-eq0.false, c.decreases),
      (
        omega arith,
        (
          omega (arith, c.split_at.ensures.front_len, c.if-index-half.true),
          (
            omega (arith, c.half_of-half.ensures, c.split_at.ensures.front_len),
            (
              front_rows c.args.writes.now c.split_at.result.0.now c.half_of-half.result c.split_at.ensures.front c.requires.rows,
              (
                long ∙ ap (λ n. length (turns (shape (c.args.level - 1) n) c.args.index)) (sym c.split_at.ensures.front_len),
                (
                  leads_below sha256 (c.args.level - 1) (length c.split_at.result.0.now) c.half_of-half.result c.args.index (reverse c.split_last.result.0.now) (leaves_of c.split_at.result.0.now)
                      (leaf_of sha256 c.args.code.now) c.leaf.result c.climb-below.result c.in_ok-left.left c.split_at.ensures.front_len c.leaf.ensures c.climb-below.ensures c.in_ok-left.ensures
                      (c.are_equal.ensures.0 c.if-are_equal.true).0,
                  λ same. c.requires.other (same ∙ front_code c.args.writes.now c.split_at.result.0.now c.half_of-half.result c.args.index c.split_at.ensures.front (omega (arith, c.if-index-half.true))),
                ),
              ),
            ),
          ),
        ),
      ),
    )

pub nodes_apart-requires-clause-same : goal.nodes_apart-requires-clause-same
nodes_apart-requires-clause-same t c =
    let back : length c.split_at.result.1.now ≡ length c.args.writes.now - c.half_of-half.result = omega (arith, c.split_at.ensures.back_len, c.if-writes-half.false) in
    left_same sha256 c.args.level (length c.args.writes.now) (length c.split_at.result.1.now) (length c.split_at.result.0.now) c.args.index c.half_of-half.result
    c.args.path.now c.split_last.result.0.now c.split_last.result.1.now (leaf_of sha256 c.args.code.now) (leaves_of c.args.writes.now) (leaves_of c.split_at.result.0.now) (leaves_of c.split_at.result.1.now)
    c.climb-below.result c.in_ok-left.left c.in_ok-right.right
    (omega (arith, c.if-level-eq0.false)) c.half_of-half.ensures (omega (arith, c.if-writes-half.false)) (omega (arith, c.if-index-half.true)) c.split_last.ensures c.split_at.ensures.front_len back
    (front_leaves c.args.writes.now c.split_at.result.0.now c.half_of-half.result c.split_at.ensures.front)
    (back_leaves c.args.writes.now c.split_at.result.1.now c.half_of-half.result c.split_at.ensures.back)
    c.requires.leads
    (c.climb-below.ensures ∙ ap (λ x. climb sha256 (turns (shape (c.args.level - 1) c.half_of-half.result) c.args.index) (reverse c.split_last.result.0.now) x) c.leaf.ensures)
    c.in_ok-left.ensures c.in_ok-right.ensures

-- ---- to the right

pub climb-below-requires-2-clause-count : goal.climb-below-requires-2-clause-count
climb-below-requires-2-clause-count t c =
    let room = room_is c.args.level c.half_of-half.result (omega (arith, c.if-level-eq0.false)) c.half_of-half.ensures in
    omega (arith, room, c.half_of-half.ensures, c.split_at.ensures.back_len, c.requires.few)

pub climb-below-requires-2-clause-long : goal.climb-below-requires-2-clause-long
climb-below-requires-2-clause-long t c =
    let back : length c.split_at.result.1.now ≡ length c.args.writes.now - c.half_of-half.result = omega (arith, c.split_at.ensures.back_len, c.if-writes-half.false) in
    one_less c.args.path.now c.split_last.result.0.now c.split_last.result.1.now (length (turns (shape c.args.level (length c.args.writes.now)) c.args.index)) (length (turns (shape (c.args.level - 1) (length c.args.writes.now - c.half_of-half.result)) (c.args.index - c.half_of-half.result))) c.split_last.ensures c.requires.long
    (right_long c.args.level (length c.args.writes.now) c.args.index c.half_of-half.result (omega (arith, c.if-level-eq0.false)) c.half_of-half.ensures (omega (arith, c.if-writes-half.false)) (omega (arith, c.if-index-half.false)))
    ∙ ap (λ n. length (turns (shape (c.args.level - 1) n) (c.args.index - c.half_of-half.result))) (sym back)

pub fork_apart-requires-then-are_equal-2 : goal.fork_apart-requires-then-are_equal-2
fork_apart-requires-then-are_equal-2 t c =
    let room = room_is c.args.level c.half_of-half.result (omega (arith, c.if-level-eq0.false)) c.half_of-half.ensures in
    let back : length c.split_at.result.1.now ≡ length c.args.writes.now - c.half_of-half.result = omega (arith, c.split_at.ensures.back_len, c.if-writes-half.false) in
    let long = one_less c.args.path.now c.split_last.result.0.now c.split_last.result.1.now (length (turns (shape c.args.level (length c.args.writes.now)) c.args.index)) (length (turns (shape (c.args.level - 1) (length c.args.writes.now - c.half_of-half.result)) (c.args.index - c.half_of-half.result))) c.split_last.ensures c.requires.long
    (right_long c.args.level (length c.args.writes.now) c.args.index c.half_of-half.result (omega (arith, c.if-level-eq0.false)) c.half_of-half.ensures (omega (arith, c.if-writes-half.false)) (omega (arith, c.if-index-half.false))) in (
      omega (arith, c.if-level-eq0.false, c.decreases),
      (
        omega arith,
        (
          omega (arith, back, c.if-index-half.false, c.requires.within),
          (
            omega (arith, room, c.half_of-half.ensures, c.split_at.ensures.back_len, c.requires.few),
            (
              back_rows c.args.writes.now c.split_at.result.1.now c.half_of-half.result c.split_at.ensures.back c.requires.rows,
              (
                long ∙ ap (λ n. length (turns (shape (c.args.level - 1) n) (c.args.index - c.half_of-half.result))) (sym back),
                (
                  leads_below sha256 (c.args.level - 1) (length c.split_at.result.1.now) (length c.split_at.result.1.now) (c.args.index - c.half_of-half.result) (reverse c.split_last.result.0.now) (leaves_of c.split_at.result.1.now)
                      (leaf_of sha256 c.args.code.now) c.leaf-2.result c.climb-below-2.result c.in_ok-right.right refl c.leaf-2.ensures c.climb-below-2.ensures c.in_ok-right.ensures
                      (c.are_equal-2.ensures.0 c.if-are_equal-2.true).1,
                  λ same. c.requires.other (same ∙ back_code c.args.writes.now c.split_at.result.1.now c.half_of-half.result c.args.index c.split_at.ensures.back (omega (arith, c.if-index-half.false))),
                ),
              ),
            ),
          ),
        ),
      ),
    )

pub nodes_apart-requires-2-clause-same : goal.nodes_apart-requires-2-clause-same
nodes_apart-requires-2-clause-same t c =
    let back : length c.split_at.result.1.now ≡ length c.args.writes.now - c.half_of-half.result = omega (arith, c.split_at.ensures.back_len, c.if-writes-half.false) in
    right_same sha256 c.args.level (length c.args.writes.now) (length c.split_at.result.1.now) (length c.split_at.result.0.now) c.args.index c.half_of-half.result
    c.args.path.now c.split_last.result.0.now c.split_last.result.1.now (leaf_of sha256 c.args.code.now) (leaves_of c.args.writes.now) (leaves_of c.split_at.result.0.now) (leaves_of c.split_at.result.1.now)
    c.climb-below-2.result c.in_ok-left.left c.in_ok-right.right
    (omega (arith, c.if-level-eq0.false)) c.half_of-half.ensures (omega (arith, c.if-writes-half.false)) (omega (arith, c.if-index-half.false)) c.split_last.ensures c.split_at.ensures.front_len back
    (front_leaves c.args.writes.now c.split_at.result.0.now c.half_of-half.result c.split_at.ensures.front)
    (back_leaves c.args.writes.now c.split_at.result.1.now c.half_of-half.result c.split_at.ensures.back)
    c.requires.leads
    (c.climb-below-2.ensures ∙ ap (λ x. climb sha256 (turns (shape (c.args.level - 1) (length c.split_at.result.1.now)) (c.args.index - c.half_of-half.result)) (reverse c.split_last.result.0.now) x) c.leaf-2.ensures)
    c.in_ok-left.ensures c.in_ok-right.ensures
