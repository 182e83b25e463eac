use Rattle.std.proofs.Common.{arith, IfOk, length, ◌≡◌, ◌-◌, sym, ◌∙◌, ap, subst}
use Rattle.sha2.specs.Sha256.{sha256}
use Rattle.merkle_proof.specs.Proofs.{leaves_of}
use Rattle.merkle_proof.specs.Shape.{shape}
use Rattle.merkle_proof.specs.Tree.{node_of, tree}
use Rattle.merkle_proof.proofs.Halves.{back_leaves, back_rows, front_leaves}
use Rattle.merkle_proof.proofs.Roots.{tree_low, tree_parts}
use Rattle.merkle_proof.proofs.Ways.{room_is}
use Rattle.merkle_proof.proofs.root.+root.Goals as goal

pub returns-then-writes-half : goal.returns-then-writes-half
returns-then-writes-half t c =
    let low = tree_low sha256 c.args.level (length c.args.writes.now) (leaves_of c.args.writes.now) (omega (arith, c.if-level-eq0.false)) (omega (arith, c.half_of-half.ensures, c.if-writes-half.true)) in
    subst (λ x. IfOk c.root.result (λ hash. hash ≡ x)) (sym low) c.root.ensures

pub root-requires-3 : goal.root-requires-3
root-requires-3 t c =
    let room = room_is c.args.level c.half_of-half.result (omega (arith, c.if-level-eq0.false)) c.half_of-half.ensures in (
      omega (arith, c.if-level-eq0.false, c.decreases),
      (
        omega arith,
        (
          omega (arith, c.split_at.ensures.back_len, c.if-writes-half.false),
          (
            omega (arith, room, c.half_of-half.ensures, c.split_at.ensures.back_len, c.requires.few),
            back_rows c.args.writes.now c.split_at.result.1.now c.half_of-half.result c.split_at.ensures.back c.requires.rows,
          ),
        ),
      ),
    )

pub returns : goal.returns
returns t c =
    let long : length c.split_at.result.1.now ≡ length c.args.writes.now - c.half_of-half.result = omega (arith, c.split_at.ensures.back_len, c.if-writes-half.false) in
    c.node.ensures
    ∙ ap (λ x. node_of sha256 x c.in_ok-right.right) (c.in_ok-left.ensures ∙ ap (λ m. tree sha256 (shape (c.args.level - 1) m) (leaves_of c.split_at.result.0.now)) c.split_at.ensures.front_len)
    ∙ ap (λ x. node_of sha256 (tree sha256 (shape (c.args.level - 1) c.half_of-half.result) (leaves_of c.split_at.result.0.now)) x) c.in_ok-right.ensures
    ∙ sym (tree_parts sha256 c.args.level (length c.args.writes.now) (length c.split_at.result.1.now) c.half_of-half.result (leaves_of c.args.writes.now)
    (leaves_of c.split_at.result.0.now) (leaves_of c.split_at.result.1.now) (omega (arith, c.if-level-eq0.false)) c.half_of-half.ensures (omega (arith, c.if-writes-half.false)) long
    (front_leaves c.args.writes.now c.split_at.result.0.now c.half_of-half.result c.split_at.ensures.front)
    (back_leaves c.args.writes.now c.split_at.result.1.now c.half_of-half.result c.split_at.ensures.back))
