-- How many leaves a shape has, and where they stand.
use Rattle.std.proofs.Common.{◌≡◌, ℕ, zero, suc, List, [], Bool, true, false, cond, refl, ◌∙◌, ap, arith, ◌≤◌, ◌<◌, ◌+◌, ◌-◌, ◌^◌}
use Rattle.std.specs.Prelude.{nat_lt, take, drop, get_or}
use Rattle.std.proofs.Math.Nat.{pow-le-pow_right, pow-suc}
use Rattle.std.proofs.lemmas.Bool.{ltb-true, ltb-false}
use Rattle.std.proofs.lemmas.List.{get_or-take, get_or-drop}
use Rattle.merkle_proof.specs.Shape.{Shape, perfect, shape, size}
use Rattle.merkle_proof.specs.Shape.Shape.{Leaf, Fork}
use Rattle.merkle_proof.specs.Tree.{leaf_at}
use Rattle.merkle_proof.specs.Laws.{LeavesStand, ShapesCount}

pub pow_twice : (k : ℕ) → 2 ^ suc k ≡ 2 ^ k + 2 ^ k
pow_twice k = omega (arith, pow-suc 2 k)

pub pow_some : (k : ℕ) → 1 ≤ 2 ^ k
pow_some zero = let one : 1 ≡ 2 ^ 0 = refl in omega arith
pow_some (suc k) = let twice = pow_twice k in let some = pow_some k in omega arith

pub size_perfect : (k : ℕ) → size (perfect k) ≡ 2 ^ k
size_perfect zero = refl
size_perfect (suc k) = omega (arith, size_perfect k, pow_twice k)

size_by : (k n : ℕ) (wide : Bool) → nat_lt (2 ^ k) n ≡ wide → 1 ≤ n → n ≤ 2 ^ suc k
    → (1 ≤ n - 2 ^ k → n - 2 ^ k ≤ 2 ^ k → size (shape k (n - 2 ^ k)) ≡ n - 2 ^ k) → (n ≤ 2 ^ k → size (shape k n) ≡ n)
    → size (cond wide (Fork (perfect k) (shape k (n - 2 ^ k))) (shape k n)) ≡ n
size_by k n true test some within at_right at_left =
    let less = ltb-true (2 ^ k) n test in
    let twice = pow_twice k in
    let rest : size (shape k (n - 2 ^ k)) ≡ n - 2 ^ k = at_right (omega arith) (omega arith) in
    let front = size_perfect k in
    omega arith
size_by k n false test some within at_right at_left = at_left (ltb-false (2 ^ k) n test)

pub shapes_count : ShapesCount
shapes_count zero n some within = let one : 1 ≡ n = omega arith in one
shapes_count (suc k) n some within =
    size_by k n (nat_lt (2 ^ k) n) refl some within (λ more less. shapes_count k (n - 2 ^ k) more less) (λ less. shapes_count k n some less)

stand_by : (a b : Shape) (leaves : List (List ℕ)) (i : ℕ) (left : Bool) → nat_lt i (size a) ≡ left → i < size a + size b
    → (i < size a → leaf_at a (take (size a) leaves) i ≡ get_or (take (size a) leaves) i [])
    → (i - size a < size b → leaf_at b (drop (size a) leaves) (i - size a) ≡ get_or (drop (size a) leaves) (i - size a) [])
    → cond left (leaf_at a (take (size a) leaves) i) (leaf_at b (drop (size a) leaves) (i - size a)) ≡ get_or leaves i []
stand_by a b leaves i true test within at_left at_right =
    let less = ltb-true i (size a) test in at_left less ∙ get_or-take (size a) leaves i [] less
stand_by a b leaves i false test within at_left at_right =
    let least = ltb-false i (size a) test in
    let right : i - size a < size b = omega arith in
    let back : size a + (i - size a) ≡ i = omega arith in
    at_right right ∙ get_or-drop (size a) leaves (i - size a) [] ∙ ap (λ j. get_or leaves j []) back

pub leaves_stand : LeavesStand
leaves_stand Leaf leaves i within = let first : 0 ≡ i = omega arith in ap (λ j. get_or leaves j []) first
leaves_stand (Fork a b) leaves i within =
    stand_by a b leaves i (nat_lt i (size a)) refl within (λ less. leaves_stand a (take (size a) leaves) i less) (λ less. leaves_stand b (drop (size a) leaves) (i - size a) less)

-- a perfect shape is the one of so many leaves
full_by : (k : ℕ) (wide : Bool) → nat_lt (2 ^ k) (2 ^ suc k) ≡ wide → shape k (2 ^ suc k - 2 ^ k) ≡ perfect k
    → cond wide (Fork (perfect k) (shape k (2 ^ suc k - 2 ^ k))) (shape k (2 ^ suc k)) ≡ Fork (perfect k) (perfect k)
full_by k true test rest = ap (λ s. Fork (perfect k) s) rest
full_by k false test rest = let most = ltb-false (2 ^ k) (2 ^ suc k) test in let twice = pow_twice k in let some = pow_some k in absurd (omega arith)

pub shape_full : (k : ℕ) → shape k (2 ^ k) ≡ perfect k
shape_full zero = refl
shape_full (suc k) =
    let twice = pow_twice k in
    let left : 2 ^ suc k - 2 ^ k ≡ 2 ^ k = omega arith in
    full_by k (nat_lt (2 ^ k) (2 ^ suc k)) refl (ap (shape k) left ∙ shape_full k)

-- more room changes nothing
stays_by : (k n : ℕ) (wide : Bool) → nat_lt (2 ^ k) n ≡ wide → n ≤ 2 ^ k → cond wide (Fork (perfect k) (shape k (n - 2 ^ k))) (shape k n) ≡ shape k n
stays_by k n true test within = let less = ltb-true (2 ^ k) n test in absurd (omega arith)
stays_by k n false test within = refl

pub shape_stays : (k n : ℕ) → n ≤ 2 ^ k → shape (suc k) n ≡ shape k n
shape_stays k n within = stays_by k n (nat_lt (2 ^ k) n) refl within

splits_by : (k n : ℕ) (wide : Bool) → nat_lt (2 ^ k) n ≡ wide → 2 ^ k < n → cond wide (Fork (perfect k) (shape k (n - 2 ^ k))) (shape k n) ≡ Fork (perfect k) (shape k (n - 2 ^ k))
splits_by k n true test less = refl
splits_by k n false test less = let most = ltb-false (2 ^ k) n test in absurd (omega arith)

pub shape_splits : (k n : ℕ) → 2 ^ k < n → shape (suc k) n ≡ Fork (perfect k) (shape k (n - 2 ^ k))
shape_splits k n less = splits_by k n (nat_lt (2 ^ k) n) refl less

-- however much room there is
pub shape_fits : (j k n : ℕ) → n ≤ 2 ^ j → j ≤ k → shape k n ≡ shape j n
shape_fits j zero n within room = let same : zero ≡ j = omega arith in ap (λ m. shape m n) same
shape_fits j (suc k) n within room = by (nat_lt k j) refl (shape_fits j k n within)
  where
    grown : (j k : ℕ) → j ≤ k → 2 ^ j ≤ 2 ^ k
    grown j k low = pow-le-pow_right (omega arith) low

    by : (last : Bool) → nat_lt k j ≡ last → (j ≤ k → shape k n ≡ shape j n) → shape (suc k) n ≡ shape j n
    by true e below = let less = ltb-true k j e in let same : suc k ≡ j = omega arith in ap (λ m. shape m n) same
    by false e below =
        let low = ltb-false k j e in
        let more : 2 ^ j ≤ 2 ^ k = grown j k low in
        shape_stays k n (omega arith) ∙ below low
