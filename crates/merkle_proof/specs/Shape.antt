-- The shape of a tree of so many leaves, and the way to a leaf.
-- (It is that of the Merkle Hash Tree of RFC 6962, section 2.1.)
use Rattle.std.specs.Prelude.{Bool, List, cond, false, nat_lt, suc, true, zero, [], ◌+◌, ◌-◌, ◌^◌, ◌∷◌, ℕ}

pub data Shape : Type 0 where
  Leaf : Shape
  Fork : Shape → Shape → Shape

-- the number of leaves
abbrev pub size : Shape → ℕ
size Leaf = 1
size (Fork a b) = size a + size b

-- 2 ^ k leaves, all at one depth
abbrev pub perfect : ℕ → Shape
perfect zero = Leaf
perfect (suc k) = Fork (perfect k) (perfect k)

-- of n leaves, at most 2 ^ k: on the left as many as the greatest power of two below n
abbrev pub shape : ℕ → ℕ → Shape
shape zero n = Leaf
shape (suc k) n = cond (nat_lt (2 ^ k) n) (Fork (perfect k) (shape k (n - 2 ^ k))) (shape k n)

-- the turns from the root to the leaf with an index from 0: true is to the right
abbrev pub turns : Shape → ℕ → List Bool
turns Leaf i = []
turns (Fork a b) i = cond (nat_lt i (size a)) (false ∷ turns a i) (true ∷ turns b (i - size a))

-- the most levels below a root: closed, since a perfect shape of so many levels is too large to be computed
unfoldable pub levels : ℕ
levels = 32
