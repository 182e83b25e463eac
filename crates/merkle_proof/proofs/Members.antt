-- What leads to the tree is its leaf, or two inputs have one hash.
use Rattle.std.proofs.Common.{◌≡◌, ℕ, suc, List, [], ◌∷◌, ◌++◌, Bool, true, false, cond, length, refl, sym, ◌∙◌, ap}
use Rattle.std.specs.Prelude.{◌-◌, nat_lt, take, drop, ◌⊎◌, ◌≢◌}
use Rattle.std.specs.List.{AllByRecursion}
use Rattle.std.specs.Bool.{Decides}
use native.Mathlib.Omega.{arith}
use Rattle.std.proofs.lemmas.List.Elements.{recursion_from_All}
use mathlib.Core.Logic.{inl, inr, ⊎_elim}
use Rattle.std.proofs.Math.Seq.{take-append_seam, drop-append_seam}
use Rattle.std.proofs.lemmas.Slice.Eq.{bytes_eq-Decides}
use Rattle.std.specs.Prelude.{get_or}
use Rattle.std.specs.Str.{bytes_eq}
use Rattle.std.proofs.lemmas.Bool.Decides.{not_from_Decides}
use Rattle.merkle_proof.specs.Shape.{Shape, size, turns}
use Rattle.merkle_proof.specs.Shape.Shape.{Leaf, Fork}
use Rattle.merkle_proof.specs.Tree.{Collision, Hash, climb, leaf_at, leaf_of, node_of, tree}
use Rattle.merkle_proof.specs.Laws.{IsWide, LeadsToMember}

-- lists of numbers are equal or not
apart_by : (xs ys : List ℕ) (same : Bool) → Decides same (xs ≡ ys) → (xs ≡ ys) ⊎ (xs ≢ ys)
apart_by xs ys true tells = inl (tells.0 refl)
apart_by xs ys false tells = inr (not_from_Decides false tells refl)

apart : (xs ys : List ℕ) → (xs ≡ ys) ⊎ (xs ≢ ys)
apart xs ys = apart_by xs ys (bytes_eq xs ys) (bytes_eq-Decides xs ys)

pub same_or_collision : (h : Hash) (left right : List ℕ) → h left ≡ h right → (left ≡ right) ⊎ Collision h
same_or_collision h left right same =
    ⊎_elim (λ e. inl e) (λ differ. inr (record { left = left; right = right; differ = differ; same = same })) (apart left right)

abbrev pub tail_of : List ℕ → List ℕ
tail_of [] = []
tail_of (x ∷ xs) = xs

-- lists that are joined alike at one place
pub joined_parts : (xs ys xs' ys' : List ℕ) → length xs ≡ length xs' → xs ++ ys ≡ xs' ++ ys' → (xs ≡ xs') × (ys ≡ ys')
joined_parts xs ys xs' ys' long e = (
  sym (take-append_seam xs ys) ∙ ap (λ n. take n (xs ++ ys)) long ∙ ap (take (length xs')) e ∙ take-append_seam xs' ys',
  sym (drop-append_seam xs ys) ∙ ap (λ n. drop n (xs ++ ys)) long ∙ ap (drop (length xs')) e ∙ drop-append_seam xs' ys',
)

pub node_parts : (xs ys xs' ys' : List ℕ) → length xs ≡ length xs' → 1 ∷ xs ++ ys ≡ 1 ∷ xs' ++ ys' → (xs ≡ xs') × (ys ≡ ys')
node_parts xs ys xs' ys' long e = joined_parts xs ys xs' ys' long (ap tail_of e)

-- equal nodes have equal halves, or two inputs have one hash
nodes : (h : Hash) (xs ys xs' ys' : List ℕ) → length xs ≡ length xs' → node_of h xs ys ≡ node_of h xs' ys' → ((xs ≡ xs') × (ys ≡ ys')) ⊎ Collision h
nodes h xs ys xs' ys' long e =
    ⊎_elim (λ same. inl (node_parts xs ys xs' ys' long same)) (λ found. inr found) (same_or_collision h (1 ∷ xs ++ ys) (1 ∷ xs' ++ ys') e)

zero_suc : (n : ℕ) → 0 ≡ suc n → ⊥
zero_suc n e = omega arith

less_one : (m n : ℕ) → suc m ≡ suc n → m ≡ n
less_one m n e = omega arith

tree_wide : (width : ℕ) (h : Hash) → IsWide width h → (s : Shape) (leaves : List (List ℕ)) → length (tree h s leaves) ≡ width
tree_wide width h wide Leaf leaves = wide (0 ∷ get_or leaves 0 [])
tree_wide width h wide (Fork a b) leaves = wide (1 ∷ tree h a (take (size a) leaves) ++ tree h b (drop (size a) leaves))

climb_wide : (width : ℕ) (h : Hash) → IsWide width h → (turns : List Bool) (steps : List (List ℕ)) (leaf : List ℕ) → length leaf ≡ width → length (climb h turns steps leaf) ≡ width
climb_wide width h wide [] steps leaf own = own
climb_wide width h wide (turn ∷ turns) [] leaf own = own
climb_wide width h wide (true ∷ turns) (step ∷ steps) leaf own = wide (1 ∷ step ++ climb h turns steps leaf)
climb_wide width h wide (false ∷ turns) (step ∷ steps) leaf own = wide (1 ∷ climb h turns steps leaf ++ step)

-- what holds of a tree at an index, for a leaf's code
abbrev Tells : ℕ → Hash → Shape → List (List ℕ) → ℕ → List ℕ → Type 0
Tells width h s leaves i code = (steps : List (List ℕ)) → length steps ≡ length (turns s i) → AllByRecursion (λ step. length step ≡ width) steps
    → climb h (turns s i) steps (leaf_of h code) ≡ tree h s leaves → (code ≡ leaf_at s leaves i) ⊎ Collision h

fork_tells : (width : ℕ) (h : Hash) → IsWide width h → (a b : Shape) (leaves : List (List ℕ)) (i : ℕ) (code : List ℕ) (left : Bool)
    → Tells width h a (take (size a) leaves) i code → Tells width h b (drop (size a) leaves) (i - size a) code
    → (steps : List (List ℕ)) → length steps ≡ length (cond left (false ∷ turns a i) (true ∷ turns b (i - size a))) → AllByRecursion (λ step. length step ≡ width) steps
    → climb h (cond left (false ∷ turns a i) (true ∷ turns b (i - size a))) steps (leaf_of h code) ≡ node_of h (tree h a (take (size a) leaves)) (tree h b (drop (size a) leaves))
    → (code ≡ cond left (leaf_at a (take (size a) leaves) i) (leaf_at b (drop (size a) leaves) (i - size a))) ⊎ Collision h
fork_tells width h wide a b leaves i code true at_left at_right [] long fit e = absurd (zero_suc (length (turns a i)) long)
fork_tells width h wide a b leaves i code false at_left at_right [] long fit e = absurd (zero_suc (length (turns b (i - size a))) long)
fork_tells width h wide a b leaves i code true at_left at_right (step ∷ steps) long fit e =
    ⊎_elim (λ same. at_left steps (less_one (length steps) (length (turns a i)) long) fit.1 same.0) (λ found. inr found)
    (nodes h (climb h (turns a i) steps (leaf_of h code)) step (tree h a (take (size a) leaves)) (tree h b (drop (size a) leaves))
    (climb_wide width h wide (turns a i) steps (leaf_of h code) (wide (0 ∷ code)) ∙ sym (tree_wide width h wide a (take (size a) leaves))) e)
fork_tells width h wide a b leaves i code false at_left at_right (step ∷ steps) long fit e =
    ⊎_elim (λ same. at_right steps (less_one (length steps) (length (turns b (i - size a))) long) fit.1 same.1) (λ found. inr found)
    (nodes h step (climb h (turns b (i - size a)) steps (leaf_of h code)) (tree h a (take (size a) leaves)) (tree h b (drop (size a) leaves))
    (fit.0 ∙ sym (tree_wide width h wide a (take (size a) leaves))) e)

tells : (width : ℕ) (h : Hash) → IsWide width h → (s : Shape) (leaves : List (List ℕ)) (i : ℕ) (code : List ℕ) → Tells width h s leaves i code
tells width h wide Leaf leaves i code steps long fit e =
    ⊎_elim (λ same. inl (ap tail_of same)) (λ found. inr found) (same_or_collision h (0 ∷ code) (0 ∷ get_or leaves 0 []) e)
tells width h wide (Fork a b) leaves i code steps long fit e =
    fork_tells width h wide a b leaves i code (nat_lt i (size a))
    (tells width h wide a (take (size a) leaves) i code) (tells width h wide b (drop (size a) leaves) (i - size a) code) steps long fit e

pub leads_to_member : (width : ℕ) (h : Hash) → IsWide width h → LeadsToMember width h
leads_to_member width h wide s leaves i code steps long fit e = tells width h wide s leaves i code steps long (recursion_from_All (λ step. length step ≡ width) steps fit) e
