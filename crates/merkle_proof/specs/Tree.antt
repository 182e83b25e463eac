-- The tree of hashes over the codes of its leaves, and what a path of sibling hashes gives. Paths run from the root down here.
use Rattle.merkle_proof.specs.Shape.{Shape, size}
use Rattle.merkle_proof.specs.Shape.Shape.{Leaf, Fork}
use Rattle.std.specs.Prelude.{Bool, List, cond, drop, get_or, nat_lt, take, [], ◌++◌, ◌-◌, ◌∷◌, ◌≡◌, ◌≢◌, ℕ}

-- a hash of bytes
abbrev pub Hash : Type 0
Hash = List ℕ → List ℕ

-- a leaf's input begins with 0 and a node's with 1, so that neither is the other
abbrev pub leaf_input : List ℕ → List ℕ
leaf_input code = 0 ∷ code

abbrev pub node_input : List ℕ → List ℕ → List ℕ
node_input left right = 1 ∷ left ++ right

abbrev pub leaf_of : Hash → List ℕ → List ℕ
leaf_of h code = h (leaf_input code)

abbrev pub node_of : Hash → List ℕ → List ℕ → List ℕ
node_of h left right = h (node_input left right)

-- the hash at the root
abbrev pub tree : Hash → Shape → List (List ℕ) → List ℕ
tree h Leaf leaves = leaf_of h (get_or leaves 0 [])
tree h (Fork a b) leaves = node_of h (tree h a (take (size a) leaves)) (tree h b (drop (size a) leaves))

-- the code of the leaf to which the turns lead
abbrev pub leaf_at : Shape → List (List ℕ) → ℕ → List ℕ
leaf_at Leaf leaves i = get_or leaves 0 []
leaf_at (Fork a b) leaves i = cond (nat_lt i (size a)) (leaf_at a (take (size a) leaves) i) (leaf_at b (drop (size a) leaves) (i - size a))

-- the hashes beside the way
abbrev pub path : Hash → Shape → List (List ℕ) → ℕ → List (List ℕ)
path h Leaf leaves i = []
path h (Fork a b) leaves i = cond (nat_lt i (size a))
    (tree h b (drop (size a) leaves) ∷ path h a (take (size a) leaves) i)
    (tree h a (take (size a) leaves) ∷ path h b (drop (size a) leaves) (i - size a))

-- the hash at the root that a leaf's hash and the hashes beside its way give
abbrev pub climb : Hash → List Bool → List (List ℕ) → List ℕ → List ℕ
climb h [] steps leaf = leaf
climb h (turn ∷ turns) [] leaf = leaf
climb h (turn ∷ turns) (step ∷ steps) leaf =
    cond turn (node_of h step (climb h turns steps leaf)) (node_of h (climb h turns steps leaf) step)

-- two inputs with one hash
pub record Collision (h : Hash) : Type 0 where
  pub left : List ℕ
  pub right : List ℕ
  pub differ : left ≢ right
  pub same : h left ≡ h right
