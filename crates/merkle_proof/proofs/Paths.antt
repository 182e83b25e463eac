-- Each path computes the tree.
use Rattle.std.proofs.Common.{◌≡◌, ℕ, List, ◌∷◌, Bool, true, false, cond, refl, ap}
use Rattle.std.specs.Prelude.{◌-◌, nat_lt, take, drop}
use Rattle.merkle_proof.specs.Shape.{Shape, size, turns}
use Rattle.merkle_proof.specs.Shape.Shape.{Leaf, Fork}
use Rattle.merkle_proof.specs.Tree.{Hash, climb, leaf_at, leaf_of, node_of, path, tree}
use Rattle.merkle_proof.specs.Laws.{PathsLead}

-- at a fork, whichever way
fork_leads : (h : Hash) (a b : Shape) (leaves : List (List ℕ)) (i : ℕ) (left : Bool)
    → climb h (turns a i) (path h a (take (size a) leaves) i) (leaf_of h (leaf_at a (take (size a) leaves) i)) ≡ tree h a (take (size a) leaves)
    → climb h (turns b (i - size a)) (path h b (drop (size a) leaves) (i - size a)) (leaf_of h (leaf_at b (drop (size a) leaves) (i - size a))) ≡ tree h b (drop (size a) leaves)
    → climb h (cond left (false ∷ turns a i) (true ∷ turns b (i - size a)))
    (cond left (tree h b (drop (size a) leaves) ∷ path h a (take (size a) leaves) i) (tree h a (take (size a) leaves) ∷ path h b (drop (size a) leaves) (i - size a)))
    (leaf_of h (cond left (leaf_at a (take (size a) leaves) i) (leaf_at b (drop (size a) leaves) (i - size a))))
    ≡ node_of h (tree h a (take (size a) leaves)) (tree h b (drop (size a) leaves))
fork_leads h a b leaves i true at_left at_right = ap (λ x. node_of h x (tree h b (drop (size a) leaves))) at_left
fork_leads h a b leaves i false at_left at_right = ap (λ x. node_of h (tree h a (take (size a) leaves)) x) at_right

pub paths_lead : (h : Hash) → PathsLead h
paths_lead h Leaf leaves i = refl
paths_lead h (Fork a b) leaves i =
    fork_leads h a b leaves i (nat_lt i (size a)) (paths_lead h a (take (size a) leaves) i) (paths_lead h b (drop (size a) leaves) (i - size a))
