-- The turns in a tree with a level more.
use Rattle.std.proofs.Common.{◌≡◌, ℕ, suc, List, [], ◌∷◌, Bool, true, false, cond, length-append, refl, sym, ◌∙◌, ap, subst, arith, ◌≤◌, ◌<◌, ◌+◌, ◌-◌, ◌^◌}
use Rattle.std.specs.Prelude.{nat_lt}
use Rattle.std.proofs.lemmas.Bool.{le-ltb, lt-ltb, ltb-false, ltb-true}
use Rattle.std.specs.Prelude.{drop, get_or, length, reverse, take, ◌++◌}
use Rattle.std.proofs.Math.Seq.{drop-cons}
use Rattle.std.proofs.lemmas.List.{drop_all, reverse-append, take-append-drop}
use Rattle.merkle_proof.specs.Tree.{Hash, climb, node_of}
use Rattle.merkle_proof.specs.Shape.{perfect, shape, size, turns}
use Rattle.merkle_proof.proofs.Sizes.{pow_twice, size_perfect, shape_full, shape_splits, shape_stays}

-- one level less, in the words of the code
pub level_is : (level : ℕ) → 1 ≤ level → level ≡ suc (level - 1)
level_is level some = omega arith

pub turns_low : (level n i : ℕ) → 1 ≤ level → n ≤ 2 ^ (level - 1) → turns (shape level n) i ≡ turns (shape (level - 1) n) i
turns_low level n i some within = ap (λ k. turns (shape k n) i) (level_is level some) ∙ ap (λ s. turns s i) (shape_stays (level - 1) n within)

by_left : (k n i : ℕ) (left : Bool) → left ≡ true → cond left (false ∷ turns (perfect k) i) (true ∷ turns (shape k (n - 2 ^ k)) (i - size (perfect k))) ≡ false ∷ turns (perfect k) i
by_left k n i true e = refl
by_left k n i false e = ap (λ left. cond left (false ∷ turns (perfect k) i) (true ∷ turns (shape k (n - 2 ^ k)) (i - size (perfect k)))) e

by_right : (k n i : ℕ) (left : Bool) → left ≡ false
    → cond left (false ∷ turns (perfect k) i) (true ∷ turns (shape k (n - 2 ^ k)) (i - size (perfect k))) ≡ true ∷ turns (shape k (n - 2 ^ k)) (i - size (perfect k))
by_right k n i left e = ap (λ left. cond left (false ∷ turns (perfect k) i) (true ∷ turns (shape k (n - 2 ^ k)) (i - size (perfect k)))) e

pub turns_left : (level n i : ℕ) → 1 ≤ level → 2 ^ (level - 1) < n → i < 2 ^ (level - 1) → turns (shape level n) i ≡ false ∷ turns (shape (level - 1) (2 ^ (level - 1))) i
turns_left level n i some less left =
    ap (λ k. turns (shape k n) i) (level_is level some) ∙ ap (λ s. turns s i) (shape_splits (level - 1) n less)
    ∙ by_left (level - 1) n i (nat_lt i (size (perfect (level - 1)))) (lt-ltb i (size (perfect (level - 1))) (subst (λ m. i < m) (sym (size_perfect (level - 1))) left))
    ∙ ap (λ s. false ∷ turns s i) (sym (shape_full (level - 1)))

pub turns_right : (level n i : ℕ) → 1 ≤ level → 2 ^ (level - 1) < n → 2 ^ (level - 1) ≤ i → turns (shape level n) i ≡ true ∷ turns (shape (level - 1) (n - 2 ^ (level - 1))) (i - 2 ^ (level - 1))
turns_right level n i some less right =
    ap (λ k. turns (shape k n) i) (level_is level some) ∙ ap (λ s. turns s i) (shape_splits (level - 1) n less)
    ∙ by_right (level - 1) n i (nat_lt i (size (perfect (level - 1)))) (le-ltb i (size (perfect (level - 1))) (subst (λ m. m ≤ i) (sym (size_perfect (level - 1))) right))
    ∙ ap (λ m. true ∷ turns (shape (level - 1) (n - 2 ^ (level - 1))) (i - m)) (size_perfect (level - 1))

more_is : (n : ℕ) → suc n ≡ n + 1
more_is n = omega arith

-- a path whose last hash stands beside the highest turn
pub parted : (path rest last : List (List ℕ)) (x : List ℕ) → 1 ≤ length path → rest ≡ take (length path - 1) path → last ≡ drop (length path - 1) path → x ≡ get_or last 0 [] → path ≡ rest ++ (x ∷ [])
parted path rest last x some front back first =
    let inside : length path - 1 < length path = omega (arith, some) in
    let one : drop (length path - 1) path ≡ get_or path (length path - 1) [] ∷ [] =
    drop-cons path (length path - 1) [] inside ∙ ap (λ more. get_or path (length path - 1) [] ∷ more) (drop_all (suc (length path - 1)) path (omega (arith, some))) in
    sym (take-append-drop (length path - 1) path)
    ∙ ap (λ xs. take (length path - 1) path ++ xs) (one ∙ ap (λ y. y ∷ []) (sym (first ∙ ap (λ xs. get_or xs 0 []) (back ∙ one))))
    ∙ ap (λ xs. xs ++ (x ∷ [])) (sym front)

-- a path without its last hash is one shorter
pub one_less : (path rest : List (List ℕ)) (x : List ℕ) (m n : ℕ) → path ≡ rest ++ (x ∷ []) → length path ≡ m → m ≡ n + 1 → length rest ≡ n
one_less path rest x m n parts long more = let both : length path ≡ length rest + 1 = ap length parts ∙ length-append rest (x ∷ []) in omega (arith, both, long, more)

pub backward : (path rest : List (List ℕ)) (x : List ℕ) → path ≡ rest ++ (x ∷ []) → reverse path ≡ x ∷ reverse rest
backward path rest x parts = ap reverse parts ∙ reverse-append rest (x ∷ [])

pub left_long : (level n i half : ℕ) → 1 ≤ level → half ≡ 2 ^ (level - 1) → half < n → i < half → length (turns (shape level n) i) ≡ length (turns (shape (level - 1) half) i) + 1
left_long level n i half some e less left =
    ap length (turns_left level n i some (subst (λ m. m < n) e less) (subst (λ m. i < m) e left))
    ∙ more_is (length (turns (shape (level - 1) (2 ^ (level - 1))) i)) ∙ ap (λ m. length (turns (shape (level - 1) m) i) + 1) (sym e)

pub right_long : (level n i half : ℕ) → 1 ≤ level → half ≡ 2 ^ (level - 1) → half < n → half ≤ i → length (turns (shape level n) i) ≡ length (turns (shape (level - 1) (n - half)) (i - half)) + 1
right_long level n i half some e less right =
    ap length (turns_right level n i some (subst (λ m. m < n) e less) (subst (λ m. m ≤ i) e right))
    ∙ more_is (length (turns (shape (level - 1) (n - 2 ^ (level - 1))) (i - 2 ^ (level - 1)))) ∙ ap (λ m. length (turns (shape (level - 1) (n - m)) (i - m)) + 1) (sym e)

-- more than half: a way has a turn
pub way_some : (level n i half : ℕ) → 1 ≤ level → half ≡ 2 ^ (level - 1) → half < n → 1 ≤ length (turns (shape level n) i)
way_some level n i half some e less = by (nat_lt i half) refl
  where
    one_more : (m k : ℕ) → m ≡ k + 1 → 1 ≤ m
    one_more m k is = omega arith

    by : (left : Bool) → nat_lt i half ≡ left → 1 ≤ length (turns (shape level n) i)
    by true at = one_more (length (turns (shape level n) i)) (length (turns (shape (level - 1) half) i)) (left_long level n i half some e less (ltb-true i half at))
    by false at = one_more (length (turns (shape level n) i)) (length (turns (shape (level - 1) (n - half)) (i - half))) (right_long level n i half some e less (ltb-false i half at))

pub left_root : (h : Hash) (level n i half : ℕ) (path : List (List ℕ)) (last : List ℕ) (rest : List (List ℕ)) (leaf : List ℕ) → 1 ≤ level → half ≡ 2 ^ (level - 1) → half < n → i < half → path ≡ rest ++ (last ∷ [])
    → climb h (turns (shape level n) i) (reverse path) leaf ≡ node_of h (climb h (turns (shape (level - 1) half) i) (reverse rest) leaf) last
left_root h level n i half path last rest leaf some e less left parts =
    ap (λ ts. climb h ts (reverse path) leaf) (turns_left level n i some (subst (λ m. m < n) e less) (subst (λ m. i < m) e left))
    ∙ ap (λ steps. climb h (false ∷ turns (shape (level - 1) (2 ^ (level - 1))) i) steps leaf) (backward path rest last parts)
    ∙ ap (λ m. node_of h (climb h (turns (shape (level - 1) m) i) (reverse rest) leaf) last) (sym e)

pub right_root : (h : Hash) (level n i half : ℕ) (path : List (List ℕ)) (last : List ℕ) (rest : List (List ℕ)) (leaf : List ℕ) → 1 ≤ level → half ≡ 2 ^ (level - 1) → half < n → half ≤ i → path ≡ rest ++ (last ∷ [])
    → climb h (turns (shape level n) i) (reverse path) leaf ≡ node_of h last (climb h (turns (shape (level - 1) (n - half)) (i - half)) (reverse rest) leaf)
right_root h level n i half path last rest leaf some e less right parts =
    ap (λ ts. climb h ts (reverse path) leaf) (turns_right level n i some (subst (λ m. m < n) e less) (subst (λ m. m ≤ i) e right))
    ∙ ap (λ steps. climb h (true ∷ turns (shape (level - 1) (n - 2 ^ (level - 1))) (i - 2 ^ (level - 1))) steps leaf) (backward path rest last parts)
    ∙ ap (λ m. node_of h last (climb h (turns (shape (level - 1) (n - m)) (i - m)) (reverse rest) leaf)) (sym e)

pub room_is : (level half : ℕ) → 1 ≤ level → half ≡ 2 ^ (level - 1) → 2 ^ level ≡ half + half
room_is level half some e = ap (λ k. 2 ^ k) (level_is level some) ∙ pow_twice (level - 1) ∙ ap (λ m. m + m) (sym e)
