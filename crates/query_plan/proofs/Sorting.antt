-- A list that is sorted and stable is the one that puts each element before the later ones that do not precede it.
use Rattle.std.proofs.Common.{◌≡◌, ◌<◌, ◌≤◌, ℕ, suc, List, [], ◌∷◌, Bool, true, false, cond, not, ◌&&◌, length, refl, sym, ap, ◌∙◌, arith}
use Rattle.std.specs.Cmp.{IsStrictWeakOrder}
use Rattle.std.specs.List.{filter}
use Rattle.std.specs.List.Sorted.{IsSortedBy, IsStableBy, ties}
use Rattle.std.specs.Prelude.{slice_index_or}
use Rattle.std.proofs.lemmas.List.Sorted.{sorted_far}
use Rattle.query_plan.specs.Answer.{put_before, sorted_by}

never_both : (b : Bool) → b ≡ true → b ≡ false → ⊥
never_both true e h = absurd cc
never_both false e h = absurd cc

module _ {X : Type 0} (lt : X → X → Bool) (o : IsStrictWeakOrder lt) where
  -- none of these precedes x
  abbrev NonePrecedes : X → List X → Type 0
  NonePrecedes x [] = Unit {0}
  NonePrecedes x (y ∷ ys) = (lt y x ≡ false) × NonePrecedes x ys

  abbrev Rises : List X → Type 0
  Rises [] = Unit {0}
  Rises (x ∷ xs) = NonePrecedes x xs × Rises xs

  none_precedes : (x : X) (ys : List X) → ((j : ℕ) (d : X) → j < length ys → lt (slice_index_or ys j d) x ≡ false) → NonePrecedes x ys
  none_precedes x [] f = tt
  none_precedes x (y ∷ ys) f = (f 0 y (omega arith), none_precedes x ys (λ j d h. f (suc j) d (omega (arith, h))))

  rises : (xs : List X) → ((i j : ℕ) (d : X) → i ≤ j → j < length xs → lt (slice_index_or xs j d) (slice_index_or xs i d) ≡ false) → Rises xs
  rises [] f = tt
  rises (x ∷ xs) f = (none_precedes x xs (λ j d h. f 0 (suc j) d (omega arith) (omega (arith, h))), rises xs (λ i j d h k. f (suc i) (suc j) d (omega (arith, h)) (omega (arith, k))))

  not_itself : (x : X) → lt x x ≡ false
  not_itself x = elim (lt x x) as (λ b. lt x x ≡ b → lt x x ≡ false) [ true ↦ λ e. o.one_way x x e | false ↦ λ e. e ] refl

  both_false : (a b : Bool) → a ≡ false → b ≡ false → (not a && not b) ≡ true
  both_false true b e h = absurd cc
  both_false false true e h = absurd cc
  both_false false false e h = refl

  first_false : (a b : Bool) → (not a && not b) ≡ true → a ≡ false
  first_false true b e = absurd cc
  first_false false b e = refl

  second_false : (a b : Bool) → (not a && not b) ≡ true → b ≡ false
  second_false true true e = absurd cc
  second_false true false e = absurd cc
  second_false false true e = absurd cc
  second_false false false e = refl

  ties_itself : (x : X) → ties lt x x ≡ true
  ties_itself x = both_false (lt x x) (lt x x) (not_itself x) (not_itself x)

  ties_not : (x y : X) → lt x y ≡ true → ties lt x y ≡ false
  ties_not x y e = ap (λ b. not b && not (lt y x)) e

  -- where y precedes x, it precedes what x precedes or ties with
  precedes_too : (x y z : X) → lt y x ≡ true → lt z x ≡ false → lt y z ≡ true
  precedes_too x y z e h = elim (lt y z) as (λ b. lt y z ≡ b → lt y z ≡ true) [ true ↦ λ k. k | false ↦ λ k. absurd (never_both (lt y x) e (o.chain y z x k h)) ] refl

  no_tie : (x y : X) (zs : List X) → lt y x ≡ true → NonePrecedes x zs → filter (ties lt y) zs ≡ []
  no_tie x y [] e n = refl
  no_tie x y (z ∷ zs) e n = ap (λ b. cond b (z ∷ filter (ties lt y) zs) (filter (ties lt y) zs)) (ties_not y z (precedes_too x y z e n.0)) ∙ no_tie x y zs e n.1

  kept_first : (x : X) (xs : List X) → filter (ties lt x) (x ∷ xs) ≡ x ∷ filter (ties lt x) xs
  kept_first x xs = ap (λ b. cond b (x ∷ filter (ties lt x) xs) (filter (ties lt x) xs)) (ties_itself x)

  not_first : (x y : X) (xs ys : List X) → NonePrecedes x xs → filter (ties lt y) (x ∷ xs) ≡ filter (ties lt y) (y ∷ ys) → lt y x ≡ false
  not_first x y xs ys n e =
      elim (lt y x) as (λ b. lt y x ≡ b → lt y x ≡ false) [
        | true ↦ λ k. let none : [] ≡ y ∷ filter (ties lt y) ys = sym (no_tie x y (x ∷ xs) k (not_itself x, n)) ∙ e ∙ kept_first y ys in absurd cc
        | false ↦ λ k. k
      ] refl

  tail_same : (b : Bool) (x : X) (us vs : List X) → cond b (x ∷ us) us ≡ cond b (x ∷ vs) vs → us ≡ vs
  tail_same true x us vs e = cc
  tail_same false x us vs e = e

  -- rising lists in which elements that tie stand alike are one
  one_list : (xs ys : List X) → Rises xs → Rises ys → ((x : X) → filter (ties lt x) xs ≡ filter (ties lt x) ys) → xs ≡ ys
  one_list [] [] r s same = refl
  one_list [] (y ∷ ys) r s same = let none : [] ≡ y ∷ filter (ties lt y) ys = same y ∙ kept_first y ys in absurd cc
  one_list (x ∷ xs) [] r s same = let none : [] ≡ x ∷ filter (ties lt x) xs = sym (same x) ∙ kept_first x xs in absurd cc
  one_list (x ∷ xs) (y ∷ ys) r s same =
      let tied : ties lt x y ≡ true = both_false (lt x y) (lt y x) (not_first y x ys xs s.0 (sym (same x))) (not_first x y xs ys r.0 (same y)) in
      let heads : x ∷ filter (ties lt x) xs ≡ y ∷ filter (ties lt x) ys =
      sym (kept_first x xs) ∙ same x ∙ ap (λ b. cond b (y ∷ filter (ties lt x) ys) (filter (ties lt x) ys)) tied in
      let first : x ≡ y = cc in
      ap (λ z. z ∷ xs) first ∙ ap (λ zs. y ∷ zs)
      (one_list xs ys r.1 s.1 (λ z. tail_same (ties lt z x) x (filter (ties lt z) xs) (filter (ties lt z) ys)
      (same z ∙ ap (λ w. cond (ties lt z w) (w ∷ filter (ties lt z) ys) (filter (ties lt z) ys)) (sym first))))

  -- ---- each element put before the later ones that do not precede it

  none_put : (r x : X) (ys : List X) → lt x r ≡ false → NonePrecedes r ys → NonePrecedes r (put_before lt x ys)
  none_put r x [] e n = (e, tt)
  none_put r x (y ∷ ys) e n =
      elim (lt y x) as (λ b. NonePrecedes r (cond b (y ∷ put_before lt x ys) (x ∷ y ∷ ys))) [ true ↦ (n.0, none_put r x ys e n.1) | false ↦ (e, n) ]

  none_after : (x y : X) (ys : List X) → lt y x ≡ false → NonePrecedes y ys → NonePrecedes x ys
  none_after x y [] e n = tt
  none_after x y (z ∷ zs) e n = (o.chain z y x n.0 e, none_after x y zs e n.1)

  rises_put : (x : X) (ys : List X) → Rises ys → Rises (put_before lt x ys)
  rises_put x [] r = (tt, tt)
  rises_put x (y ∷ ys) r =
      elim (lt y x) as (λ b. lt y x ≡ b → Rises (cond b (y ∷ put_before lt x ys) (x ∷ y ∷ ys))) [
        | true ↦ λ e. (none_put y x ys (o.one_way y x e) r.0, rises_put x ys r.1)
        | false ↦ λ e. ((e, none_after x y ys e r.0), r)
      ] refl

  rises_sorted : (xs : List X) → Rises (sorted_by lt xs)
  rises_sorted [] = tt
  rises_sorted (x ∷ xs) = rises_put x (sorted_by lt xs) (rises_sorted xs)

  -- of two elements of which the one precedes the other, not both tie with a third
  swapped : (x y z : X) (us : List X) → lt y x ≡ true → (b c : Bool) → ties lt z y ≡ b → ties lt z x ≡ c → cond b (y ∷ cond c (x ∷ us) us) (cond c (x ∷ us) us) ≡ cond c (x ∷ cond b (y ∷ us) us) (cond b (y ∷ us) us)
  swapped x y z us e true true h k =
      absurd (never_both (lt y x) e (o.chain y z x (second_false (lt z y) (lt y z) h) (first_false (lt z x) (lt x z) k)))
  swapped x y z us e true false h k = refl
  swapped x y z us e false true h k = refl
  swapped x y z us e false false h k = refl

  stable_put : (z x : X) (ys : List X) → filter (ties lt z) (put_before lt x ys) ≡ filter (ties lt z) (x ∷ ys)
  stable_put z x [] = refl
  stable_put z x (y ∷ ys) =
      elim (lt y x) as (λ b. lt y x ≡ b → filter (ties lt z) (cond b (y ∷ put_before lt x ys) (x ∷ y ∷ ys)) ≡ filter (ties lt z) (x ∷ y ∷ ys)) [
        | true ↦ λ e. ap (λ zs. cond (ties lt z y) (y ∷ zs) zs) (stable_put z x ys) ∙ swapped x y z (filter (ties lt z) ys) e (ties lt z y) (ties lt z x) refl refl
        | false ↦ λ e. refl
      ] refl

  stable_sorted : (z : X) (xs : List X) → filter (ties lt z) (sorted_by lt xs) ≡ filter (ties lt z) xs
  stable_sorted z [] = refl
  stable_sorted z (x ∷ xs) = stable_put z x (sorted_by lt xs) ∙ ap (λ zs. cond (ties lt z x) (x ∷ zs) zs) (stable_sorted z xs)

  pub sorted_is : (xs ys : List X) → IsSortedBy lt ys → IsStableBy lt xs ys → ys ≡ sorted_by lt xs
  sorted_is xs ys sorted stable =
      one_list ys (sorted_by lt xs) (rises ys (λ i j d. sorted_far lt o ys sorted i j d)) (rises_sorted xs) (λ z. stable z ∙ sym (stable_sorted z xs))
