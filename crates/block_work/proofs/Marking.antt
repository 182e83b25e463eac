-- Marks that are set, and ids with values that have theirs.
use Rattle.std.proofs.Common.{Bool, IsTrue, List, None, Some, [], cond, false, refl, subst, sym, true, ◌||◌, ◌∙◌, ◌≡◌, ◌∷◌, ⊎_elim, ℕ}
use Rattle.std.proofs.lemmas.Map.Text.{is_eq-slice_cmp}
use Rattle.std.specs.BTreeMap.{is_at}
use Rattle.std.specs.Cmp.Lexicographic.{slice_cmp}
use Rattle.std.specs.List.{list_any}
use Rattle.std.specs.Ordering.{eq_by_cmp, nat_cmp}
use Rattle.std.specs.Prelude.{is_some}
use Rattle.block_work.specs.Marks.{AreMarked, KeepsMarks, has_mark, value_of}
use Rattle.rel_base.proofs.Bits.{either, or_left, or_right}
use Rattle.rel_base.proofs.Bytes.{equal_bytes}

-- equal ids are the same
same_id : (a b : List ℕ) → is_at (slice_cmp nat_cmp a) b ≡ true → a ≡ b
same_id a b is = equal_bytes a b (sym (is_eq-slice_cmp a b) ∙ is)

-- ---- all of some ids

-- whether an id is one of some
abbrev pub is_among : List (List ℕ) → List ℕ → Bool
is_among ids id = list_any (eq_by_cmp (slice_cmp nat_cmp) id) ids

-- an id is marked, or is one of those that are left
abbrev pub is_marked_or : List ℕ → List (List ℕ) → List ℕ → Bool
is_marked_or words left id = has_mark words id || is_among left id

pub marked_next : (words words' : List ℕ) (left rest : List (List ℕ)) (id : List ℕ) → left ≡ id ∷ rest → KeepsMarks words words' → has_mark words' id ≡ true
    → (q : List ℕ) → is_marked_or words left q ≡ true → is_marked_or words' rest q ≡ true
marked_next words words' left rest id is keeps own q so_far = ⊎_elim
    (λ marked. or_left (has_mark words' q) (is_among rest q) (keeps q marked))
    (λ inside. ⊎_elim
    (λ same. or_left (has_mark words' q) (is_among rest q) (subst (λ i. has_mark words' i ≡ true) (sym (same_id q id same)) own))
    (λ further. or_right (has_mark words' q) (is_among rest q) further)
    (either (is_at (slice_cmp nat_cmp q) id) (is_among rest q) (subst (λ ids. is_among ids q ≡ true) is inside)))
    (either (has_mark words q) (is_among left q) so_far)

-- none is left
pub all_marked : (words : List ℕ) (left : List (List ℕ)) (q : List ℕ) → left ≡ [] → is_marked_or words left q ≡ true → has_mark words q ≡ true
all_marked words left q none so_far = ⊎_elim
    (λ marked. marked)
    (λ inside. none_among (subst (λ ids. is_among ids q ≡ true) none inside))
    (either (has_mark words q) (is_among left q) so_far)
  where
    none_among : is_among [] q ≡ true → has_mark words q ≡ true
    none_among is = cc

-- ---- one id

-- without one id all are marked still
pub less_marked : {X : Type 0} (old new : List (List ℕ × X)) (words id : List ℕ) → ((other : List ℕ) → value_of new other ≡ cond (is_at (slice_cmp nat_cmp id) other) None (value_of old other))
    → AreMarked old words → AreMarked new words
less_marked old new words id is marked other some = go (is_at (slice_cmp nat_cmp id) other) (subst (λ found. is_some found ≡ true) (is other) some)
  where
    go : (b : Bool) → is_some (cond b None (value_of old other)) ≡ true → has_mark words other ≡ true
    go true none = cc
    go false there = marked other there

-- with one more, which is marked, all are marked
pub more_marked : {X : Type 0} (old new : List (List ℕ × X)) (words words' id : List ℕ) (value : X) → ((other : List ℕ) → value_of new other ≡ cond (is_at (slice_cmp nat_cmp id) other) (Some value) (value_of old other))
    → KeepsMarks words words' → has_mark words' id ≡ true → AreMarked old words → AreMarked new words'
more_marked old new words words' id value is keeps own marked other some = go (is_at (slice_cmp nat_cmp id) other) refl (subst (λ found. is_some found ≡ true) (is other) some)
  where
    go : (b : Bool) → is_at (slice_cmp nat_cmp id) other ≡ b → is_some (cond b (Some value) (value_of old other)) ≡ true → has_mark words' other ≡ true
    go true same there = subst (λ i. has_mark words' i ≡ true) (same_id id other same) own
    go false apart there = keeps other (marked other there)

-- an id with a value is found
pub none_held : {X : Type 0} (values : List (List ℕ × X)) (id : List ℕ) → IsTrue (is_some (value_of values id)) → value_of values id ≡ None → ⊥
none_held values id held none = no (subst (λ found. IsTrue (is_some found)) none held)
  where
    no : IsTrue false → ⊥
    no is = cc
