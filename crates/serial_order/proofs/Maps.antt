-- A function of the elements of a list: one more element written by it, and a list in reverse order.
use Rattle.std.proofs.Common.{ap, arith, drop, length, map, refl, reverse, slice_index_or, slice_set, suc, sym, take, zero, List, [], ◌+◌, ◌++◌, ◌<◌, ◌∙◌, ◌≡◌, ◌∷◌, ℕ}
use Rattle.std.proofs.lemmas.List.{reverse-append}

module _ {X : Type 0} (f : X → X) where
  written : (xs : List X) (i : ℕ) (d : X) → i < length xs
      → slice_set (map f (take i xs) ++ drop i xs) i (f (slice_index_or (map f (take i xs) ++ drop i xs) i d)) ≡ map f (take (suc i) xs) ++ drop (suc i) xs
  written [] i d lt = absurd (omega (arith, lt))
  written (x ∷ xs) zero d lt = refl
  written (x ∷ xs) (suc i) d lt = ap (λ l. f x ∷ l) (written xs i d (omega (arith, lt)))

  pub map_step : (xs items : List X) (i : ℕ) (y d : X) → items ≡ map f (take i xs) ++ drop i xs → i < length xs → y ≡ f (slice_index_or items i d)
      → slice_set items i y ≡ map f (take (i + 1) xs) ++ drop (i + 1) xs
  map_step xs items i y d is lt e =
      let next : i + 1 ≡ suc i = omega arith in
      ap (slice_set items i) e ∙ ap (λ l. slice_set l i (f (slice_index_or l i d))) is ∙ written xs i d lt ∙ sym (ap (λ n. map f (take n xs) ++ drop n xs) next)

  map_append : (xs ys : List X) → map f (xs ++ ys) ≡ map f xs ++ map f ys
  map_append [] ys = refl
  map_append (x ∷ xs) ys = ap (λ l. f x ∷ l) (map_append xs ys)

  pub map_reverse : (xs : List X) → map f (reverse xs) ≡ reverse (map f xs)
  map_reverse [] = refl
  map_reverse (x ∷ xs) =
      ap (map f) (reverse-append (x ∷ []) xs) ∙ map_append (reverse xs) (x ∷ []) ∙ ap (λ l. l ++ f x ∷ []) (map_reverse xs) ∙ sym (reverse-append (f x ∷ []) (map f xs))
