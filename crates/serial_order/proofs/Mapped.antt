-- The first element of a list that is mapped.
use Rattle.std.proofs.Common.{ap, cond, inl, inr, map, refl, Bool, List, None, Option, Some, true, false, [], ◌∷◌, ◌∙◌, ◌≡◌}
use Rattle.std.specs.Option.{option_map}
use Rattle.node_model.specs.Order.{take_first}
use Rattle.rw_graph.proofs.Lists.{In}

abbrev taken_if : {M : Type 0} → Bool → M → List M → Option (M × List M) → Option (M × List M)
taken_if b x xs o = cond b (Some (x, xs)) (option_map (λ r. (r.0, x ∷ r.1)) o)

module _ {M N : Type 0} (f : M → N) where
  abbrev pub both : M × List M → N × List N
  both r = (f r.0, map f r.1)

  pub take_first-map : (p : M → Bool) (q : N → Bool) (xs : List M) → ((x : M) → In x xs → q (f x) ≡ p x) → take_first q (map f xs) ≡ option_map both (take_first p xs)
  take_first-map p q [] same = refl
  take_first-map p q (x ∷ xs) same =
      ap (λ b. taken_if b (f x) (map f xs) (take_first q (map f xs))) (same x (inl refl))
      ∙ ap (taken_if (p x) (f x) (map f xs)) (take_first-map p q xs (λ y h. same y (inr h)))
      ∙ step (p x) (take_first p xs)
    where
      step : (b : Bool) (o : Option (M × List M)) → taken_if b (f x) (map f xs) (option_map both o) ≡ option_map both (taken_if b x xs o)
      step true o = refl
      step false None = refl
      step false (Some r) = refl
