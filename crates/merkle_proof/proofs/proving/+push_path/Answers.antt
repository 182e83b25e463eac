use Rattle.std.proofs.Common.{[], ◌∷◌, ◌++◌, arith, length, append_assoc, ◌≡◌, ◌-◌, ◌∙◌, ap, subst, sym}
use Rattle.std.specs.Prelude.{OnOk, reverse}
use Rattle.sha2.specs.Sha256.{sha256}
use Rattle.merkle_proof.specs.Proofs.{leaves_of}
use Rattle.merkle_proof.specs.Shape.{shape}
use Rattle.merkle_proof.specs.Tree.{path, tree}
use Rattle.merkle_proof.proofs.Halves.{back_leaves, back_rows, front_leaves, on_ok}
use Rattle.merkle_proof.proofs.Roots.{path_left, path_low, path_right}
use Rattle.merkle_proof.proofs.Ways.{room_is}
use Rattle.merkle_proof.proofs.proving.+push_path.Goals as goal

pub returns-then-writes-half : goal.returns-then-writes-half
returns-then-writes-half t c =
    let low = path_low sha256 c.args.level (length c.args.writes.now) c.args.index (leaves_of c.args.writes.now) (omega (arith, c.if-level-eq0.false)) (omega (arith, c.half_of-half.ensures, c.if-writes-half.true)) in
    subst (λ steps. OnOk c.push_path.result (c.push_path.new.steps ≡ c.args.steps.now ++ reverse steps)) (sym low) c.push_path.ensures

pub root-requires-clause-few : goal.root-requires-clause-few
root-requires-clause-few t c =
    let room = room_is c.args.level c.half_of-half.result (omega (arith, c.if-level-eq0.false)) c.half_of-half.ensures in
    omega (arith, room, c.half_of-half.ensures, c.split_at.ensures.back_len, c.requires.few)

pub returns-then-index-half : goal.returns-then-index-half
returns-then-index-half t c =
    let long : length c.split_at.result.1.now ≡ length c.args.writes.now - c.half_of-half.result = omega (arith, c.split_at.ensures.back_len, c.if-writes-half.false) in
    let half = path_left sha256 c.args.level (length c.args.writes.now) (length c.split_at.result.1.now) c.args.index c.half_of-half.result (leaves_of c.args.writes.now)
    (leaves_of c.split_at.result.0.now) (leaves_of c.split_at.result.1.now) (omega (arith, c.if-level-eq0.false)) c.half_of-half.ensures (omega (arith, c.if-writes-half.false)) (omega (arith, c.if-index-half.true)) long
    (front_leaves c.args.writes.now c.split_at.result.0.now c.half_of-half.result c.split_at.ensures.front)
    (back_leaves c.args.writes.now c.split_at.result.1.now c.half_of-half.result c.split_at.ensures.back) in
    on_ok c.push.result
    (λ pushed. pushed ∙ ap (λ x. c.push_path-then-index-half.new.steps ++ (x ∷ [])) c.in_ok-beside.ensures
    ∙ ap (λ steps. steps ++ (tree sha256 (shape (c.args.level - 1) (length c.split_at.result.1.now)) (leaves_of c.split_at.result.1.now) ∷ [])) c.in_ok-push_path.ensures
    ∙ ap (λ n. (c.args.steps.now ++ reverse (path sha256 (shape (c.args.level - 1) n) (leaves_of c.split_at.result.0.now) c.args.index)) ++ (tree sha256 (shape (c.args.level - 1) (length c.split_at.result.1.now)) (leaves_of c.split_at.result.1.now) ∷ [])) c.split_at.ensures.front_len
    ∙ append_assoc c.args.steps.now (reverse (path sha256 (shape (c.args.level - 1) c.half_of-half.result) (leaves_of c.split_at.result.0.now) c.args.index))
    (tree sha256 (shape (c.args.level - 1) (length c.split_at.result.1.now)) (leaves_of c.split_at.result.1.now) ∷ [])
    ∙ ap (λ steps. c.args.steps.now ++ steps) (sym half)) c.push.ensures.ok

pub push_path-requires-2 : goal.push_path-requires-2
push_path-requires-2 t c =
    let room = room_is c.args.level c.half_of-half.result (omega (arith, c.if-level-eq0.false)) c.half_of-half.ensures in (
      omega (arith, c.if-level-eq0.false, c.decreases),
      (
        omega arith,
        (
          omega (arith, c.split_at.ensures.back_len, c.if-index-half.false, c.requires.within),
          (
            omega (arith, room, c.half_of-half.ensures, c.split_at.ensures.back_len, c.requires.few),
            back_rows c.args.writes.now c.split_at.result.1.now c.half_of-half.result c.split_at.ensures.back c.requires.rows,
          ),
        ),
      ),
    )

pub returns : goal.returns
returns t c =
    let long : length c.split_at.result.1.now ≡ length c.args.writes.now - c.half_of-half.result = omega (arith, c.split_at.ensures.back_len, c.if-writes-half.false) in
    let half = path_right sha256 c.args.level (length c.args.writes.now) (length c.split_at.result.1.now) c.args.index c.half_of-half.result (leaves_of c.args.writes.now)
    (leaves_of c.split_at.result.0.now) (leaves_of c.split_at.result.1.now) (omega (arith, c.if-level-eq0.false)) c.half_of-half.ensures (omega (arith, c.if-writes-half.false)) (omega (arith, c.if-index-half.false)) long
    (front_leaves c.args.writes.now c.split_at.result.0.now c.half_of-half.result c.split_at.ensures.front)
    (back_leaves c.args.writes.now c.split_at.result.1.now c.half_of-half.result c.split_at.ensures.back) in
    on_ok c.push-2.result
    (λ pushed. pushed ∙ ap (λ x. c.push_path-2.new.steps ++ (x ∷ [])) c.in_ok-beside-2.ensures
    ∙ ap (λ n. c.push_path-2.new.steps ++ (tree sha256 (shape (c.args.level - 1) n) (leaves_of c.split_at.result.0.now) ∷ [])) c.split_at.ensures.front_len
    ∙ ap (λ steps. steps ++ (tree sha256 (shape (c.args.level - 1) c.half_of-half.result) (leaves_of c.split_at.result.0.now) ∷ [])) c.in_ok-push_path-2.ensures
    ∙ append_assoc c.args.steps.now (reverse (path sha256 (shape (c.args.level - 1) (length c.split_at.result.1.now)) (leaves_of c.split_at.result.1.now) (c.args.index - c.half_of-half.result)))
    (tree sha256 (shape (c.args.level - 1) c.half_of-half.result) (leaves_of c.split_at.result.0.now) ∷ [])
    ∙ ap (λ steps. c.args.steps.now ++ steps) (sym half)) c.push-2.ensures.ok
