use Rattle.std.proofs.Common.{◌≡◌, ◌≤◌, length, IfOk, List, ℕ, subst}
use Rattle.merkle_proof.proofs.Member.{some_writes, tree_is}
use Rattle.merkle_proof.proofs.root.tree_of.Goals as goal

pub returns : goal.returns
returns c =
    let some : 1 ≤ length c.args.writes.now = some_writes c.args.writes.now c.is_empty.result c.is_empty.ensures c.if-is_empty.false in
    subst (λ (root : List ℕ). IfOk c.root.result (λ hash. hash ≡ root)) (tree_is c.args.writes.now c.most_levels.result c.most_levels.ensures.same some) c.root.ensures
