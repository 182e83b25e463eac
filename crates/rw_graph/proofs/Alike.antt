-- Members and their images: what is found among one is found among the other.
use Rattle.std.proofs.Common.{ap, cond, inl, inr, map, refl, Bool, List, None, Option, Some, true, false, [], ◌∷◌, ◌∙◌, ◌≡◌, ◌&&◌, ◌||◌, ℕ}
use Rattle.std.specs.Bool.{nat_le, nat_lt}
use Rattle.std.specs.List.{list_any}
use Rattle.std.specs.Option.{option_map, option_or}
use Rattle.std.specs.Prelude.{find}
use Rattle.node_model.specs.Danger.{danger_among, first_pair, is_form_one, is_form_two, with_partner}
use Rattle.node_model.specs.declared.danger.Danger.TheVariants.{One, Two}
use Rattle.node_model.specs.declared.danger.Danger.{Danger}
use Rattle.rw_graph.proofs.Lists.{In}

module _ {M N : Type 0} (f : M → N) where
  any_alike : (p : M → Bool) (q : N → Bool) (xs : List M) → ((x : M) → In x xs → q (f x) ≡ p x) → list_any q (map f xs) ≡ list_any p xs
  any_alike p q [] same = refl
  any_alike p q (x ∷ xs) same = ap (λ b. b || list_any q (map f xs)) (same x (inl refl)) ∙ ap (λ b. p x || b) (any_alike p q xs (λ y h. same y (inr h)))

  pub find_alike : (p : M → Bool) (q : N → Bool) (xs : List M) → ((x : M) → In x xs → q (f x) ≡ p x) → find q (map f xs) ≡ option_map f (find p xs)
  find_alike p q [] same = refl
  find_alike p q (x ∷ xs) same =
      ap (λ b. cond b (Some (f x)) (find q (map f xs))) (same x (inl refl)) ∙ ap (cond (p x) (Some (f x))) (find_alike p q xs (λ y h. same y (inr h))) ∙ step (p x) (find p xs)
    where
      step : (b : Bool) (o : Option M) → cond b (Some (f x)) (option_map f o) ≡ option_map f (cond b (Some x) o)
      step true o = refl
      step false o = refl

  abbrev IsIn : List M → Option M → Type 0
  IsIn xs None = Unit {0}
  IsIn xs (Some x) = In x xs

  found_in : (p : M → Bool) (xs : List M) → IsIn xs (find p xs)
  found_in p [] = tt
  found_in p (x ∷ xs) = step (p x) (find p xs) (found_in p xs)
    where
      step : (b : Bool) (o : Option M) → IsIn xs o → IsIn (x ∷ xs) (cond b (Some x) o)
      step true o h = inl refl
      step false None h = tt
      step false (Some y) h = inr h

  abbrev two : M × M → N × N
  two pair = (f pair.0, f pair.1)

  pair_alike : (R : M → M → Bool) (Q : N → N → Bool) (xs : List M) → ((x : M) → In x xs → (y : M) → In y xs → Q (f x) (f y) ≡ R x y) → first_pair Q (map f xs) ≡ option_map two (first_pair R xs)
  pair_alike R Q xs same =
      ap (with_partner Q (map f xs)) (find_alike (λ x. list_any (R x) xs) (λ y. list_any (Q y) (map f xs)) xs (λ x h. any_alike (R x) (Q (f x)) xs (same x h)))
      ∙ partner (find (λ x. list_any (R x) xs) xs) (found_in (λ x. list_any (R x) xs) xs)
    where
      turned : (x : M) (o : Option M) → option_map (λ y. (f x, y)) (option_map f o) ≡ option_map two (option_map (λ y. (x, y)) o)
      turned x None = refl
      turned x (Some y) = refl

      partner : (o : Option M) → IsIn xs o → with_partner Q (map f xs) (option_map f o) ≡ option_map two (with_partner R xs o)
      partner None h = refl
      partner (Some x) h = ap (option_map (λ y. (f x, y))) (find_alike (R x) (Q (f x)) xs (same x h)) ∙ turned x (find (R x) xs)

-- members and their positions meet the same danger
module _ {M : Type 0} (pos : M → ℕ) (edge : M → M → Bool) (out into : M → Bool) (has : ℕ → ℕ → Bool) (out_at into_at : ℕ → Bool) (members : List M)
    (edges : (x : M) → In x members → (y : M) → In y members → has (pos x) (pos y) ≡ edge x y)
    (outs : (x : M) → In x members → out_at (pos x) ≡ out x) (intos : (x : M) → In x members → into_at (pos x) ≡ into x) where
  pub danger_alike : danger_among (λ p. p) has out_at into_at (map pos members) ≡ danger_among pos edge out into members
  danger_alike =
      ap (λ o. told o (first_pair (is_form_two (λ p. p) has out_at into_at) (map pos members)))
      (pair_alike pos (is_form_one pos edge out into) (is_form_one (λ p. p) has out_at into_at) members (λ z h x k.
      ap (λ b. b && (into_at (pos x) && nat_le (pos z) (pos x))) (outs z h) ∙ ap (λ b. out z && (b && nat_le (pos z) (pos x))) (intos x k)))
      ∙ ap (told (option_map (two pos) (first_pair (is_form_one pos edge out into) members)))
      (pair_alike pos (is_form_two pos edge out into) (is_form_two (λ p. p) has out_at into_at) members (λ y h z k.
      ap (λ b. b && (has (pos y) (pos z) && nat_lt (pos z) (pos y))) (outs y h) ∙ ap (λ b. out y && (b && nat_lt (pos z) (pos y))) (edges y h z k)))
      ∙ same (first_pair (is_form_one pos edge out into) members) (first_pair (is_form_two pos edge out into) members)
    where
      told : Option (ℕ × ℕ) → Option (ℕ × ℕ) → Option Danger
      told one two = option_or (option_map (λ pair. One pair.0 pair.1) one) (option_map (λ pair. Two pair.0 pair.1) two)

      same : (a b : Option (M × M)) → told (option_map (two pos) a) (option_map (two pos) b) ≡ option_or (option_map (λ pair. One (pos pair.0) (pos pair.1)) a) (option_map (λ pair. Two (pos pair.0) (pos pair.1)) b)
      same (Some p) b = refl
      same None (Some p) = refl
      same None None = refl
