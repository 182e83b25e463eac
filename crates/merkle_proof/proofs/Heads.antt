-- Members have proofs, and proofs have members or name two inputs with one hash.
use Rattle.std.proofs.Common.{◌≡◌, ℕ, zero, suc, List, [], ◌∷◌, Bool, true, false, cond, length, length-drop, refl, sym, ◌∙◌, ap, subst, arith, ◌≤◌, ◌<◌, ◌^◌, ◌+◌}
use Rattle.std.specs.Prelude.{All, get_or, ◌⊎◌, ◌-◌, drop, nat_lt, reverse, take}
use mathlib.Core.Logic.{inl, inr, ⊎_elim}
use Rattle.std.specs.Int.{to_be_bytes, from_be_bytes, w32}
use Rattle.std.proofs.lemmas.Nat.{from_be_bytes-to_be_bytes_4}
use Rattle.std.proofs.Math.Nat.{pow-le-pow_right}
use Rattle.std.proofs.lemmas.Bool.{ltb-false, ltb-true}
use Rattle.std.proofs.lemmas.List.{get_or-reverse, length-reverse, length-take-le, reverse-reverse}
use Rattle.merkle_proof.specs.Shape.Shape.{Leaf, Fork}
use Rattle.merkle_proof.specs.Shape.{Shape, levels, perfect, shape, size, turns}
use Rattle.merkle_proof.specs.Tree.{Collision, Hash, climb, leaf_at, leaf_of, node_of, path, tree}
use Rattle.merkle_proof.specs.Head.{audit_path, claimed, head_at, head_input, tree_of}
use Rattle.merkle_proof.specs.Laws.{IsWide, MembersHaveProofs, OneIsLeaf, PathsAreShort, ProofsHaveMembers, TreesSplit}
use Rattle.merkle_proof.proofs.Paths.{paths_lead}
use Rattle.merkle_proof.proofs.Members.{joined_parts, leads_to_member, same_or_collision, tail_of}
use Rattle.merkle_proof.proofs.Sizes.{leaves_stand, pow_some, pow_twice, shape_fits, shape_full, shape_splits, shapes_count, size_perfect}

pub tree_of_some : (h : Hash) (codes : List (List ℕ)) → 1 ≤ length codes → tree_of h codes ≡ tree h (shape levels (length codes)) codes
tree_of_some h [] some = absurd (omega arith)
tree_of_some h (code ∷ codes) some = refl

few_fit : (n : ℕ) → n < 2 ^ 32 → n ≤ 2 ^ levels
unfolding levels
few_fit n few = omega (arith, few)

some_of : (i n : ℕ) → i < n → 1 ≤ n
some_of i n less = omega arith

leaf_is : (codes : List (List ℕ)) (i : ℕ) → i < length codes → length codes < 2 ^ 32 → leaf_at (shape levels (length codes)) codes i ≡ get_or codes i []
leaf_is codes i within few =
    let counts : size (shape levels (length codes)) ≡ length codes = shapes_count levels (length codes) (some_of i (length codes) within) (few_fit (length codes) few) in
    leaves_stand (shape levels (length codes)) codes i (subst (λ n. i < n) (sym counts) within)

-- ---- members have proofs

-- a path has a hash for each turn
fork_long : (h : Hash) (a b : Shape) (leaves : List (List ℕ)) (i : ℕ) (left : Bool)
    → length (path h a (take (size a) leaves) i) ≡ length (turns a i) → length (path h b (drop (size a) leaves) (i - size a)) ≡ length (turns b (i - size a))
    → length (cond left (tree h b (drop (size a) leaves) ∷ path h a (take (size a) leaves) i) (tree h a (take (size a) leaves) ∷ path h b (drop (size a) leaves) (i - size a)))
    ≡ length (cond left (false ∷ turns a i) (true ∷ turns b (i - size a)))
fork_long h a b leaves i true at_left at_right = ap suc at_left
fork_long h a b leaves i false at_left at_right = ap suc at_right

path_long : (h : Hash) (s : Shape) (leaves : List (List ℕ)) (i : ℕ) → length (path h s leaves i) ≡ length (turns s i)
path_long h Leaf leaves i = refl
path_long h (Fork a b) leaves i =
    fork_long h a b leaves i (nat_lt i (size a)) (path_long h a (take (size a) leaves) i) (path_long h b (drop (size a) leaves) (i - size a))

index_in : (index n : ℕ) → 1 ≤ index → index ≤ n → index - 1 < n
index_in index n from_one within = omega arith

pub members_have_proofs : (h : Hash) → MembersHaveProofs h
members_have_proofs h codes index from_one within few =
    let i : ℕ = index - 1 in
    let s : Shape = shape levels (length codes) in
    let inside : index - 1 < length codes = index_in index (length codes) from_one within in record {
      placed = record { from_one = from_one; within = within; long = length-reverse (path h s codes i) ∙ path_long h s codes i };
      leads =
          ap (λ steps. claimed h (length codes) i steps (get_or codes i [])) (reverse-reverse (path h s codes i))
          ∙ ap (λ code. claimed h (length codes) i (path h s codes i) code) (sym (leaf_is codes i inside few))
          ∙ ap (head_at h (length codes)) (paths_lead h s codes i ∙ sym (tree_of_some h codes (some_of i (length codes) inside)));
    }

-- a path has at most as many hashes as its tree has levels
fork_short : (k i : ℕ) (b : Shape) (left : Bool) → length (turns (perfect k) i) ≤ k → length (turns b (i - size (perfect k))) ≤ k
    → length (cond left (false ∷ turns (perfect k) i) (true ∷ turns b (i - size (perfect k)))) ≤ suc k
fork_short k i b true at_left at_right = omega arith
fork_short k i b false at_left at_right = omega arith

perfect_short : (k i : ℕ) → length (turns (perfect k) i) ≤ k
perfect_short zero i = omega arith
perfect_short (suc k) i = fork_short k i (perfect k) (nat_lt i (size (perfect k))) (perfect_short k i) (perfect_short k (i - size (perfect k)))

turns_short : (k n i : ℕ) → length (turns (shape k n) i) ≤ k
turns_short zero n i = omega arith
turns_short (suc k) n i = by (nat_lt (2 ^ k) n) (turns_short k (n - 2 ^ k) (i - size (perfect k))) (turns_short k n i)
  where
    up : (m : ℕ) → m ≤ k → m ≤ suc k
    up m low = omega arith

    by : (more : Bool) → length (turns (shape k (n - 2 ^ k)) (i - size (perfect k))) ≤ k → length (turns (shape k n) i) ≤ k
        → length (turns (cond more (Fork (perfect k) (shape k (n - 2 ^ k))) (shape k n)) i) ≤ suc k
    by true at_right at_left = fork_short k i (shape k (n - 2 ^ k)) (nat_lt i (size (perfect k))) (perfect_short k i) at_right
    by false at_right at_left = up (length (turns (shape k n) i)) at_left

levels_few : (m : ℕ) → m ≤ levels → m ≤ 32
unfolding levels
levels_few m low = low

pub paths_are_short : PathsAreShort
paths_are_short count index = levels_few (length (turns (shape levels count) index)) (turns_short levels count index)

pub audit_short : (h : Hash) (codes : List (List ℕ)) (i : ℕ) → length (audit_path h codes i) ≤ 32
audit_short h codes i =
    subst (λ n. n ≤ 32) (sym (length-reverse (path h (shape levels (length codes)) codes i) ∙ path_long h (shape levels (length codes)) codes i)) (paths_are_short (length codes) i)

-- ---- proofs have members

count_is : (m n : ℕ) → m < 2 ^ 32 → n < 2 ^ 32 → to_be_bytes w32 m ≡ to_be_bytes w32 n → m ≡ n
count_is m n small few e = sym (from_be_bytes-to_be_bytes_4 m small) ∙ ap (from_be_bytes w32) e ∙ from_be_bytes-to_be_bytes_4 n few

-- equal inputs of heads have equal counts and roots
pub head_parts : (m n : ℕ) (x y : List ℕ) → m < 2 ^ 32 → n < 2 ^ 32 → head_input m x ≡ head_input n y → (m ≡ n) × (x ≡ y)
head_parts m n x y small few e = let parts = joined_parts (to_be_bytes w32 m) x (to_be_bytes w32 n) y refl (ap tail_of e) in (count_is m n small few parts.0, parts.1)

heads : (h : Hash) (m n : ℕ) (x y : List ℕ) → m < 2 ^ 32 → n < 2 ^ 32 → head_at h m x ≡ head_at h n y → ((m ≡ n) × (x ≡ y)) ⊎ Collision h
heads h m n x y small few e =
    ⊎_elim (λ same. inl (head_parts m n x y small few same)) (λ found. inr found) (same_or_collision h (head_input m x) (head_input n y) e)

-- a path from the root down whose count is right leads to the tree
pub root_by : (h : Hash) (codes : List (List ℕ)) (count i : ℕ) (code : List ℕ) (steps : List (List ℕ)) → i < count → count ≡ length codes
    → climb h (turns (shape levels count) i) steps (leaf_of h code) ≡ tree_of h codes → climb h (turns (shape levels (length codes)) i) steps (leaf_of h code) ≡ tree h (shape levels (length codes)) codes
root_by h codes count i code steps within same e =
    ap (λ n. climb h (turns (shape levels n) i) steps (leaf_of h code)) (sym same) ∙ e ∙ tree_of_some h codes (some_of i (length codes) (subst (λ n. i < n) same within))

member_by : (h : Hash) → IsWide 32 h → (codes : List (List ℕ)) (count i : ℕ) (code : List ℕ) (steps : List (List ℕ)) → length codes < 2 ^ 32 → i < count
    → length steps ≡ length (turns (shape levels count) i) → All (λ step. length step ≡ 32) steps
    → count ≡ length codes → climb h (turns (shape levels count) i) steps (leaf_of h code) ≡ tree_of h codes
    → ((count ≡ length codes) × (code ≡ get_or codes i [])) ⊎ Collision h
member_by h wide codes count i code steps few within long fit same e =
    let inside : i < length codes = subst (λ n. i < n) same within in
    ⊎_elim (λ own. inl (same, own ∙ leaf_is codes i inside few)) (λ found. inr found)
    (leads_to_member 32 h wide (shape levels (length codes)) codes i code steps (long ∙ ap (λ n. length (turns (shape levels n) i)) same) fit (root_by h codes count i code steps within same e))

all_reverse : (P : List ℕ → Type 0) (xs : List (List ℕ)) → All P xs → All P (reverse xs)
all_reverse P xs each k d within =
    let inside : k < length xs = subst (λ n. k < n) (length-reverse xs) within in
    subst P (sym (get_or-reverse xs k d inside)) (each (length xs - 1 - k) d (omega (arith, inside)))

pub proofs_have_members : (h : Hash) → IsWide 32 h → ProofsHaveMembers h
proofs_have_members h wide codes count index code steps few small fit proof =
    let i : ℕ = index - 1 in
    let within : index - 1 < count = index_in index count proof.placed.from_one proof.placed.within in
    ⊎_elim
    (λ parts. member_by h wide codes count i code (reverse steps) few within (length-reverse steps ∙ proof.placed.long) (all_reverse (λ step. length step ≡ 32) steps fit) parts.0 parts.1)
    (λ found. inr found)
    (heads h count (length codes) (climb h (turns (shape levels count) i) (reverse steps) (leaf_of h code)) (tree_of h codes) small few proof.leads)

-- ---- the tree by its equations

shape_one : (k : ℕ) → shape k 1 ≡ Leaf
shape_one k = shape_fits 0 k 1 (omega arith) (omega arith)

pub one_is_leaf : (h : Hash) → OneIsLeaf h
one_is_leaf h code = ap (λ s. tree h s (code ∷ [])) (shape_one levels)

below_levels : (j n : ℕ) → 2 ^ j < n → n < 2 ^ 32 → suc j ≤ levels
unfolding levels
below_levels j n less few = by (nat_lt j 32) refl
  where
    by : (low : Bool) → nat_lt j 32 ≡ low → suc j ≤ 32
    by true e = ltb-true j 32 e
    by false e = let most : 2 ^ 32 ≤ 2 ^ j = pow-le-pow_right (omega arith) (ltb-false j 32 e) in absurd (omega (arith, most))

half_low : (j : ℕ) → suc j ≤ levels → j ≤ levels
half_low j low = omega arith

pub trees_split : (h : Hash) → TreesSplit h
trees_split h codes j less most few =
    let n : ℕ = length codes in
    let low : suc j ≤ levels = below_levels j (length codes) less few in
    let fit : length codes ≤ 2 ^ suc j = subst (λ k. length codes ≤ 2 ^ k) (more_is j) most in
    let twice : 2 ^ suc j ≡ 2 ^ j + 2 ^ j = pow_twice j in
    let front : length (take (2 ^ j) codes) ≡ 2 ^ j = length-take-le (2 ^ j) codes (omega arith) in
    let back : length (drop (2 ^ j) codes) ≡ length codes - 2 ^ j = length-drop (2 ^ j) codes in
    tree_of_some h codes (some_of (2 ^ j) (length codes) less)
    ∙ ap (λ s. tree h s codes) (shape_fits (suc j) levels (length codes) fit low ∙ shape_splits j (length codes) less)
    ∙ ap (λ m. node_of h (tree h (perfect j) (take m codes)) (tree h (shape j (length codes - 2 ^ j)) (drop m codes))) (size_perfect j)
    ∙ ap (λ s. node_of h (tree h s (take (2 ^ j) codes)) (tree h (shape j (length codes - 2 ^ j)) (drop (2 ^ j) codes)))
    (sym (shape_fits j levels (2 ^ j) (omega arith) (half_low j low) ∙ shape_full j) ∙ ap (shape levels) (sym front))
    ∙ ap (λ s. node_of h (tree h (shape levels (length (take (2 ^ j) codes))) (take (2 ^ j) codes)) (tree h s (drop (2 ^ j) codes)))
    (sym (shape_fits j levels (length codes - 2 ^ j) (omega arith) (half_low j low)) ∙ ap (shape levels) (sym back))
    ∙ ap (λ x. node_of h x (tree h (shape levels (length (drop (2 ^ j) codes))) (drop (2 ^ j) codes))) (sym (tree_of_some h (take (2 ^ j) codes) (some_front (2 ^ j) (length (take (2 ^ j) codes)) (pow_some j) front)))
    ∙ ap (λ x. node_of h (tree_of h (take (2 ^ j) codes)) x) (sym (tree_of_some h (drop (2 ^ j) codes) (some_back (2 ^ j) (length codes) (length (drop (2 ^ j) codes)) less back)))
  where
    more_is : (j : ℕ) → j + 1 ≡ suc j
    more_is j = omega arith

    some_front : (half m : ℕ) → 1 ≤ half → m ≡ half → 1 ≤ m
    some_front half m some e = omega arith

    some_back : (half n m : ℕ) → half < n → m ≡ n - half → 1 ≤ m
    some_back half n m less e = omega arith
