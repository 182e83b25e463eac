-- Laws of the tree, over any hash.
use Rattle.merkle_proof.specs.Head.{IsProof, audit_path, head, tree_of}
use Rattle.merkle_proof.specs.Shape.{Shape, levels, shape, size, turns}
use Rattle.merkle_proof.specs.Tree.{Collision, Hash, climb, leaf_at, leaf_of, node_of, path, tree}
use Rattle.std.specs.Prelude.{All, List, drop, get_or, length, take, [], ◌∷◌, ◌-◌, ◌+◌, ◌<◌, ◌^◌, ◌≡◌, ◌≤◌, ◌⊎◌, ℕ}

-- each path computes the tree
abbrev pub PathsLead : Hash → Type 0
PathsLead h = (s : Shape) (leaves : List (List ℕ)) (i : ℕ) → climb h (turns s i) (path h s leaves i) (leaf_of h (leaf_at s leaves i)) ≡ tree h s leaves

-- each hash has as many bytes
abbrev pub IsWide : ℕ → Hash → Type 0
IsWide width h = (bytes : List ℕ) → length (h bytes) ≡ width

-- what leads to the tree is its leaf, or two inputs have one hash
abbrev pub LeadsToMember : ℕ → Hash → Type 0
LeadsToMember width h = (s : Shape) (leaves : List (List ℕ)) (i : ℕ) (code : List ℕ) (steps : List (List ℕ)) → length steps ≡ length (turns s i) → All (λ step. length step ≡ width) steps
    → climb h (turns s i) steps (leaf_of h code) ≡ tree h s leaves → (code ≡ leaf_at s leaves i) ⊎ Collision h

-- the leaves of a tree stand in their order
abbrev pub LeavesStand : Type 0
LeavesStand = (s : Shape) (leaves : List (List ℕ)) (i : ℕ) → i < size s → leaf_at s leaves i ≡ get_or leaves i []

-- a shape has so many leaves
abbrev pub ShapesCount : Type 0
ShapesCount = (k n : ℕ) → 1 ≤ n → n ≤ 2 ^ k → size (shape k n) ≡ n

-- the tree of one code is its leaf
abbrev pub OneIsLeaf : Hash → Type 0
OneIsLeaf h = (code : List ℕ) → tree_of h (code ∷ []) ≡ leaf_of h code

-- the tree of n codes has below it those of the codes before the greatest power of two below n, and of the others
abbrev pub TreesSplit : Hash → Type 0
TreesSplit h = (codes : List (List ℕ)) (j : ℕ) → 2 ^ j < length codes → length codes ≤ 2 ^ (j + 1) → length codes < 2 ^ 32
    → tree_of h codes ≡ node_of h (tree_of h (take (2 ^ j) codes)) (tree_of h (drop (2 ^ j) codes))

-- each code has a proof, at its index from 1
abbrev pub MembersHaveProofs : Hash → Type 0
MembersHaveProofs h = (codes : List (List ℕ)) (index : ℕ) → 1 ≤ index → index ≤ length codes → length codes < 2 ^ 32
    → IsProof h (head h codes) (get_or codes (index - 1) []) (length codes) index (audit_path h codes (index - 1))

-- what a proof leads from to the head of codes is the one at its index, and the counts are equal, or two inputs have one hash
abbrev pub ProofsHaveMembers : Hash → Type 0
ProofsHaveMembers h = (codes : List (List ℕ)) (count index : ℕ) (code : List ℕ) (steps : List (List ℕ)) → length codes < 2 ^ 32 → count < 2 ^ 32
    → All (λ step. length step ≡ 32) steps → IsProof h (head h codes) code count index steps
    → ((count ≡ length codes) × (code ≡ get_or codes (index - 1) [])) ⊎ Collision h

-- a path has at most 32 steps
abbrev pub PathsAreShort : Type 0
PathsAreShort = (count index : ℕ) → length (turns (shape levels count) index) ≤ 32
