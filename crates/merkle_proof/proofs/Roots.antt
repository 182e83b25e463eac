-- A tree's root, and the path to a leaf, by halves.
use Rattle.std.proofs.Common.{◌≡◌, ℕ, List, [], ◌∷◌, ◌++◌, cond, sym, ◌∙◌, ap, subst, ◌≤◌, ◌<◌, ◌-◌, ◌^◌}
use Rattle.std.specs.Prelude.{drop, reverse, take}
use Rattle.std.proofs.lemmas.Bool.{le-ltb, lt-ltb}
use Rattle.std.proofs.lemmas.List.{reverse-append}
use Rattle.merkle_proof.specs.Shape.{perfect, shape, size}
use Rattle.merkle_proof.specs.Tree.{Hash, node_of, path, tree}
use Rattle.merkle_proof.proofs.Sizes.{size_perfect, shape_full, shape_splits, shape_stays}
use Rattle.merkle_proof.proofs.Ways.{level_is}

pub tree_low : (h : Hash) (level n : ℕ) (leaves : List (List ℕ)) → 1 ≤ level → n ≤ 2 ^ (level - 1) → tree h (shape level n) leaves ≡ tree h (shape (level - 1) n) leaves
tree_low h level n leaves some within = ap (λ k. tree h (shape k n) leaves) (level_is level some) ∙ ap (λ s. tree h s leaves) (shape_stays (level - 1) n within)

pub tree_split : (h : Hash) (level n half : ℕ) (leaves : List (List ℕ)) → 1 ≤ level → half ≡ 2 ^ (level - 1) → half < n
    → tree h (shape level n) leaves ≡ node_of h (tree h (shape (level - 1) half) (take half leaves)) (tree h (shape (level - 1) (n - half)) (drop half leaves))
tree_split h level n half leaves some e less =
    ap (λ k. tree h (shape k n) leaves) (level_is level some) ∙ ap (λ s. tree h s leaves) (shape_splits (level - 1) n (subst (λ m. m < n) e less))
    ∙ ap (λ m. node_of h (tree h (perfect (level - 1)) (take m leaves)) (tree h (shape (level - 1) (n - 2 ^ (level - 1))) (drop m leaves))) (size_perfect (level - 1))
    ∙ ap (λ s. node_of h (tree h s (take (2 ^ (level - 1)) leaves)) (tree h (shape (level - 1) (n - 2 ^ (level - 1))) (drop (2 ^ (level - 1)) leaves))) (sym (shape_full (level - 1)))
    ∙ ap (λ m. node_of h (tree h (shape (level - 1) m) (take m leaves)) (tree h (shape (level - 1) (n - m)) (drop m leaves))) (sym e)

-- the same of two parts, as they were told
pub tree_parts : (h : Hash) (level n m half : ℕ) (leaves front back : List (List ℕ)) → 1 ≤ level → half ≡ 2 ^ (level - 1) → half < n → m ≡ n - half → front ≡ take half leaves → back ≡ drop half leaves
    → tree h (shape level n) leaves ≡ node_of h (tree h (shape (level - 1) half) front) (tree h (shape (level - 1) m) back)
tree_parts h level n m half leaves front back some e less long at_front at_back =
    tree_split h level n half leaves some e less
    ∙ ap (λ xs. node_of h (tree h (shape (level - 1) half) xs) (tree h (shape (level - 1) (n - half)) (drop half leaves))) (sym at_front)
    ∙ ap (λ k. node_of h (tree h (shape (level - 1) half) front) (tree h (shape (level - 1) k) (drop half leaves))) (sym long)
    ∙ ap (λ xs. node_of h (tree h (shape (level - 1) half) front) (tree h (shape (level - 1) m) xs)) (sym at_back)

pub path_low : (h : Hash) (level n i : ℕ) (leaves : List (List ℕ)) → 1 ≤ level → n ≤ 2 ^ (level - 1) → path h (shape level n) leaves i ≡ path h (shape (level - 1) n) leaves i
path_low h level n i leaves some within = ap (λ k. path h (shape k n) leaves i) (level_is level some) ∙ ap (λ s. path h s leaves i) (shape_stays (level - 1) n within)

pub path_left : (h : Hash) (level n m i half : ℕ) (leaves front back : List (List ℕ)) → 1 ≤ level → half ≡ 2 ^ (level - 1) → half < n → i < half → m ≡ n - half → front ≡ take half leaves → back ≡ drop half leaves
    → reverse (path h (shape level n) leaves i) ≡ reverse (path h (shape (level - 1) half) front i) ++ (tree h (shape (level - 1) m) back ∷ [])
path_left h level n m i half leaves front back some e less left long at_front at_back =
    ap reverse
    (ap (λ k. path h (shape k n) leaves i) (level_is level some)
    ∙ ap (λ s. path h s leaves i) (shape_splits (level - 1) n (subst (λ k. k < n) e less))
    ∙ ap (λ t. cond t (tree h (shape (level - 1) (n - 2 ^ (level - 1))) (drop (size (perfect (level - 1))) leaves) ∷ path h (perfect (level - 1)) (take (size (perfect (level - 1))) leaves) i)
    (tree h (perfect (level - 1)) (take (size (perfect (level - 1))) leaves) ∷ path h (shape (level - 1) (n - 2 ^ (level - 1))) (drop (size (perfect (level - 1))) leaves) (i - size (perfect (level - 1)))))
    (lt-ltb i (size (perfect (level - 1))) (subst (λ k. i < k) (e ∙ sym (size_perfect (level - 1))) left))
    ∙ ap (λ k. tree h (shape (level - 1) (n - 2 ^ (level - 1))) (drop k leaves) ∷ path h (perfect (level - 1)) (take k leaves) i) (size_perfect (level - 1))
    ∙ ap (λ s. tree h (shape (level - 1) (n - 2 ^ (level - 1))) (drop (2 ^ (level - 1)) leaves) ∷ path h s (take (2 ^ (level - 1)) leaves) i) (sym (shape_full (level - 1)))
    ∙ ap (λ k. tree h (shape (level - 1) (n - k)) (drop k leaves) ∷ path h (shape (level - 1) k) (take k leaves) i) (sym e)
    ∙ ap (λ xs. tree h (shape (level - 1) (n - half)) (drop half leaves) ∷ path h (shape (level - 1) half) xs i) (sym at_front)
    ∙ ap (λ k. tree h (shape (level - 1) k) (drop half leaves) ∷ path h (shape (level - 1) half) front i) (sym long)
    ∙ ap (λ xs. tree h (shape (level - 1) m) xs ∷ path h (shape (level - 1) half) front i) (sym at_back))
    ∙ reverse-append (tree h (shape (level - 1) m) back ∷ []) (path h (shape (level - 1) half) front i)

pub path_right : (h : Hash) (level n m i half : ℕ) (leaves front back : List (List ℕ)) → 1 ≤ level → half ≡ 2 ^ (level - 1) → half < n → half ≤ i → m ≡ n - half → front ≡ take half leaves → back ≡ drop half leaves
    → reverse (path h (shape level n) leaves i) ≡ reverse (path h (shape (level - 1) m) back (i - half)) ++ (tree h (shape (level - 1) half) front ∷ [])
path_right h level n m i half leaves front back some e less right long at_front at_back =
    ap reverse
    (ap (λ k. path h (shape k n) leaves i) (level_is level some)
    ∙ ap (λ s. path h s leaves i) (shape_splits (level - 1) n (subst (λ k. k < n) e less))
    ∙ ap (λ t. cond t (tree h (shape (level - 1) (n - 2 ^ (level - 1))) (drop (size (perfect (level - 1))) leaves) ∷ path h (perfect (level - 1)) (take (size (perfect (level - 1))) leaves) i)
    (tree h (perfect (level - 1)) (take (size (perfect (level - 1))) leaves) ∷ path h (shape (level - 1) (n - 2 ^ (level - 1))) (drop (size (perfect (level - 1))) leaves) (i - size (perfect (level - 1)))))
    (le-ltb i (size (perfect (level - 1))) (subst (λ k. k ≤ i) (e ∙ sym (size_perfect (level - 1))) right))
    ∙ ap (λ k. tree h (perfect (level - 1)) (take k leaves) ∷ path h (shape (level - 1) (n - 2 ^ (level - 1))) (drop k leaves) (i - k)) (size_perfect (level - 1))
    ∙ ap (λ s. tree h s (take (2 ^ (level - 1)) leaves) ∷ path h (shape (level - 1) (n - 2 ^ (level - 1))) (drop (2 ^ (level - 1)) leaves) (i - 2 ^ (level - 1))) (sym (shape_full (level - 1)))
    ∙ ap (λ k. tree h (shape (level - 1) k) (take k leaves) ∷ path h (shape (level - 1) (n - k)) (drop k leaves) (i - k)) (sym e)
    ∙ ap (λ xs. tree h (shape (level - 1) half) xs ∷ path h (shape (level - 1) (n - half)) (drop half leaves) (i - half)) (sym at_front)
    ∙ ap (λ k. tree h (shape (level - 1) half) front ∷ path h (shape (level - 1) k) (drop half leaves) (i - half)) (sym long)
    ∙ ap (λ xs. tree h (shape (level - 1) half) front ∷ path h (shape (level - 1) m) xs (i - half)) (sym at_back))
    ∙ reverse-append (tree h (shape (level - 1) half) front ∷ []) (path h (shape (level - 1) m) back (i - half))
