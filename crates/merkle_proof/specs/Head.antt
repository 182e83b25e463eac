-- The head of a list of codes, and the head that a proof gives.
use Rattle.merkle_proof.specs.Shape.{levels, shape, turns}
use Rattle.merkle_proof.specs.Tree.{Hash, climb, leaf_of, path, tree}
use Rattle.std.specs.Int.{to_be_bytes, w32}
use Rattle.std.specs.Prelude.{List, length, replicate, reverse, [], ◌++◌, ◌-◌, ◌∷◌, ◌≡◌, ◌≤◌, ℕ}

-- the root of the tree over codes; of none, 32 zero bytes
abbrev pub tree_of : Hash → List (List ℕ) → List ℕ
tree_of h [] = replicate 32 0
tree_of h (code ∷ codes) = tree h (shape levels (length (code ∷ codes))) (code ∷ codes)

-- the byte 2, a count and a root
abbrev pub head_input : ℕ → List ℕ → List ℕ
head_input count root = 2 ∷ to_be_bytes w32 count ++ root

abbrev pub head_at : Hash → ℕ → List ℕ → List ℕ
head_at h count root = h (head_input count root)

-- the head binds the number of the codes too
abbrev pub head : Hash → List (List ℕ) → List ℕ
head h codes = head_at h (length codes) (tree_of h codes)

-- the sibling hashes beside the way to the code with an index from 0, from the leaf upward
abbrev pub audit_path : Hash → List (List ℕ) → ℕ → List (List ℕ)
audit_path h codes i = reverse (path h (shape levels (length codes)) codes i)

-- the head that a count, an index from 0, a path from the root down and a code give
abbrev pub claimed : Hash → ℕ → ℕ → List (List ℕ) → List ℕ → List ℕ
claimed h count i steps code = head_at h count (climb h (turns (shape levels count) i) steps (leaf_of h code))

-- a path has the length that a count and an index, from 1, give
pub record IsPlaced (count index : ℕ) (steps : List (List ℕ)) : Type 0 where
  pub from_one : 1 ≤ index
  pub within : index ≤ count
  pub long : length steps ≡ length (turns (shape levels count) (index - 1))

-- such a path, from the leaf upward, leads from a code to a head
pub record IsProof (h : Hash) (top : List ℕ) (code : List ℕ) (count index : ℕ) (steps : List (List ℕ)) : Type 0 where
  pub placed : IsPlaced count index steps
  pub leads : claimed h count (index - 1) (reverse steps) code ≡ top
