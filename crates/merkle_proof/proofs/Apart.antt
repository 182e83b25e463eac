-- Where a path claims what a tree has: at each fork the two nodes have one hash, and so have the subtrees below while these are equal.
use Rattle.std.proofs.Common.{◌≡◌, ◌≤◌, ◌<◌, ◌-◌, ◌+◌, ◌^◌, ℕ, List, [], ◌∷◌, ◌++◌, arith, get_or, length, sym, ◌∙◌, ap}
use Rattle.std.specs.Prelude.{drop, reverse, take}
use Rattle.std.proofs.lemmas.List.{get_or-drop, get_or-take}
use Rattle.rel_base.specs.declared.access.Placed.{Placed}
use Rattle.merkle_proof.specs.Proofs.{leaves_of}
use Rattle.merkle_proof.specs.Shape.{shape, turns}
use Rattle.merkle_proof.specs.Tree.{Hash, climb, node_input, node_of, tree}
use Rattle.merkle_proof.proofs.Halves.{back_leaves, front_leaves}
use Rattle.merkle_proof.proofs.Members.{node_parts}
use Rattle.merkle_proof.proofs.Roots.{tree_parts}
use Rattle.merkle_proof.proofs.Ways.{left_root, right_root}

pub nodes_differ : (xs ys xs' ys' : List ℕ) → length xs ≡ length xs' → ((xs ≡ xs') × (ys ≡ ys') → ⊥) → node_input xs ys ≡ node_input xs' ys' → ⊥
nodes_differ xs ys xs' ys' wide apart same = apart (node_parts xs ys xs' ys' wide same)

-- the nodes at a fork, where the way goes to the left
pub left_same : (h : Hash) (level n m k i half : ℕ) (steps rest : List (List ℕ)) (last leaf : List ℕ) (leaves front back : List (List ℕ)) (below left right : List ℕ)
    → 1 ≤ level → half ≡ 2 ^ (level - 1) → half < n → i < half → steps ≡ rest ++ (last ∷ []) → k ≡ half → m ≡ n - half → front ≡ take half leaves → back ≡ drop half leaves
    → climb h (turns (shape level n) i) (reverse steps) leaf ≡ tree h (shape level n) leaves → below ≡ climb h (turns (shape (level - 1) half) i) (reverse rest) leaf
    → left ≡ tree h (shape (level - 1) k) front → right ≡ tree h (shape (level - 1) m) back → node_of h below last ≡ node_of h left right
left_same h level n m k i half steps rest last leaf leaves front back below left right some e less inside parts front_long back_long at_front at_back leads is_below is_left is_right =
    ap (λ x. node_of h x last) is_below ∙ sym (left_root h level n i half steps last rest leaf some e less inside parts) ∙ leads
    ∙ tree_parts h level n m half leaves front back some e less back_long at_front at_back
    ∙ ap (λ x. node_of h x (tree h (shape (level - 1) m) back)) (sym (is_left ∙ ap (λ size. tree h (shape (level - 1) size) front) front_long)) ∙ ap (λ x. node_of h left x) (sym is_right)

-- and where it goes to the right
pub right_same : (h : Hash) (level n m k i half : ℕ) (steps rest : List (List ℕ)) (last leaf : List ℕ) (leaves front back : List (List ℕ)) (below left right : List ℕ)
    → 1 ≤ level → half ≡ 2 ^ (level - 1) → half < n → half ≤ i → steps ≡ rest ++ (last ∷ []) → k ≡ half → m ≡ n - half → front ≡ take half leaves → back ≡ drop half leaves
    → climb h (turns (shape level n) i) (reverse steps) leaf ≡ tree h (shape level n) leaves → below ≡ climb h (turns (shape (level - 1) m) (i - half)) (reverse rest) leaf
    → left ≡ tree h (shape (level - 1) k) front → right ≡ tree h (shape (level - 1) m) back → node_of h last below ≡ node_of h left right
right_same h level n m k i half steps rest last leaf leaves front back below left right some e less beyond parts front_long back_long at_front at_back leads is_below is_left is_right =
    ap (λ x. node_of h last x) (is_below ∙ ap (λ size. climb h (turns (shape (level - 1) size) (i - half)) (reverse rest) leaf) back_long)
    ∙ sym (right_root h level n i half steps last rest leaf some e less beyond parts) ∙ leads
    ∙ tree_parts h level n m half leaves front back some e less back_long at_front at_back
    ∙ ap (λ x. node_of h x (tree h (shape (level - 1) m) back)) (sym (is_left ∙ ap (λ size. tree h (shape (level - 1) size) front) front_long)) ∙ ap (λ x. node_of h left x) (sym is_right)

-- equal hashes of a subtree: the way below leads to its root
pub leads_below : (h : Hash) (j k size i : ℕ) (steps leaves : List (List ℕ)) (own leaf below root : List ℕ) → k ≡ size → leaf ≡ own → below ≡ climb h (turns (shape j size) i) steps leaf → root ≡ tree h (shape j k) leaves
    → below ≡ root → climb h (turns (shape j k) i) steps own ≡ tree h (shape j k) leaves
leads_below h j k size i steps leaves own leaf below root long is_leaf is_below is_root same =
    ap (λ n. climb h (turns (shape j n) i) steps own) long ∙ ap (λ x. climb h (turns (shape j size) i) steps x) (sym is_leaf) ∙ sym is_below ∙ same ∙ is_root

-- the code of a half is that of the whole
pub front_code : (writes front : List Placed) (half i : ℕ) → front ≡ take half writes → i < half → get_or (leaves_of front) i [] ≡ get_or (leaves_of writes) i []
front_code writes front half i same inside = ap (λ xs. get_or xs i []) (front_leaves writes front half same) ∙ get_or-take half (leaves_of writes) i [] inside

pub back_code : (writes back : List Placed) (half i : ℕ) → back ≡ drop half writes → half ≤ i → get_or (leaves_of back) (i - half) [] ≡ get_or (leaves_of writes) i []
back_code writes back half i same beyond =
    let place : half + (i - half) ≡ i = omega arith in
    ap (λ xs. get_or xs (i - half) []) (back_leaves writes back half same) ∙ get_or-drop half (leaves_of writes) (i - half) [] ∙ ap (λ j. get_or (leaves_of writes) j []) place
