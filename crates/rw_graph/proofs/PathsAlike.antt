-- Paths among members and among their positions.
use Rattle.std.proofs.Common.{ap, inl, inr, length, map, not, refl, suc, sym, zero, Bool, List, None, Option, Some, [], ◌&&◌, ◌++◌, ◌∙◌, ◌∷◌, ◌≡◌, ℕ}
use Rattle.node_model.specs.Paths.{are_different, closes, is_path, leads_back, least_path, least_path_upto, lists}
use Rattle.rw_graph.proofs.Alike.{find_alike}
use Rattle.rw_graph.proofs.Different.{AreMembers, are_members}
use Rattle.rw_graph.proofs.Lists.{In}
use Rattle.std.proofs.lemmas.List.Folds.{flat_map-map}
use Rattle.std.proofs.lemmas.List.{length-map, map-append}
use Rattle.std.specs.Bool.{nat_eq}
use Rattle.std.specs.List.{flat_map, list_all}
use Rattle.std.specs.Option.{option_map, option_or}
use Rattle.std.specs.Prelude.{find}

map_flat : {X Y Z : Type 0} (f : Y → Z) (g : X → List Y) (xs : List X) → map f (flat_map g xs) ≡ flat_map (λ x. map f (g x)) xs
map_flat f g [] = refl
map_flat f g (x ∷ xs) = map-append f (g x) (flat_map g xs) ∙ ap (λ l. map f (g x) ++ l) (map_flat f g xs)

or_alike : {X Y : Type 0} (f : X → Y) (a b : Option X) → option_or (option_map f a) (option_map f b) ≡ option_map f (option_or a b)
or_alike f None b = refl
or_alike f (Some x) b = refl

module _ {M : Type 0} (pos : M → ℕ) (edge : M → M → Bool) (out into : M → Bool) (members : List M) (has : ℕ → ℕ → Bool) (out_at into_at : ℕ → Bool)
    (between : (from : M) → In from members → (to : M) → In to members → has (pos from) (pos to) ≡ edge from to)
    (outs : (one : M) → In one members → out_at (pos one) ≡ out one) (intos : (one : M) → In one members → into_at (pos one) ≡ into one) where
  abbrev positions : List ℕ
  positions = map pos members

  in_front : (x : M) (ls : List (List M)) → map (map pos) (map (λ rest. x ∷ rest) ls) ≡ map (λ rest. pos x ∷ rest) (map (map pos) ls)
  in_front x [] = refl
  in_front x (l ∷ ls) = ap (λ m. (pos x ∷ map pos l) ∷ m) (in_front x ls)

  lists_alike : (number : ℕ) → lists (λ p. p) has out_at into_at positions number ≡ map (map pos) (lists pos edge out into members number)
  lists_alike zero = refl
  lists_alike (suc number) =
      ap (λ ls. flat_map (λ first. map (λ rest. first ∷ rest) ls) positions) (lists_alike number)
      ∙ flat_map-map (λ first. map (λ rest. first ∷ rest) (map (map pos) (lists pos edge out into members number))) pos members
      ∙ sym (map_flat (map pos) (λ first. map (λ rest. first ∷ rest) (lists pos edge out into members number)) members
      ∙ ap (λ g. flat_map g members) (λ i x. in_front x (lists pos edge out into members number) i))

  back_alike : (member : M) (rest : List M) → In member members → AreMembers pos edge out into members rest
      → leads_back (λ p. p) has out_at into_at (pos member) (map pos rest) ≡ leads_back pos edge out into member rest
  back_alike member [] h inside = intos member h
  back_alike member (next ∷ rest) h inside =
      ap (λ b. b && leads_back (λ p. p) has out_at into_at (pos next) (map pos rest)) (between member h next (inside next (inl refl)))
      ∙ ap (λ b. edge member next && b) (back_alike next rest (inside next (inl refl)) (λ m k. inside m (inr k)))

  closes_alike : (list : List M) → AreMembers pos edge out into members list → closes (λ p. p) has out_at into_at (map pos list) ≡ closes pos edge out into list
  closes_alike [] inside = refl
  closes_alike (first ∷ rest) inside =
      ap (λ b. b && leads_back (λ p. p) has out_at into_at (pos first) (map pos rest)) (outs first (inside first (inl refl)))
      ∙ ap (λ b. out first && b) (back_alike first rest (inside first (inl refl)) (λ m k. inside m (inr k)))

  all_alike : (at : ℕ) (list : List M) → list_all (λ other. not (nat_eq at other)) (map pos list) ≡ list_all (λ other. not (nat_eq at (pos other))) list
  all_alike at [] = refl
  all_alike at (first ∷ rest) = ap (λ b. not (nat_eq at (pos first)) && b) (all_alike at rest)

  different_alike : (list : List M) → are_different (λ p. p) has out_at into_at (map pos list) ≡ are_different pos edge out into list
  different_alike [] = refl
  different_alike (first ∷ rest) =
      ap (λ b. b && are_different (λ p. p) has out_at into_at (map pos rest)) (all_alike (pos first) rest) ∙ ap (λ b. list_all (λ other. not (nat_eq (pos first) (pos other))) rest && b) (different_alike rest)

  path_alike : (number : ℕ) (list : List M) → In list (lists pos edge out into members number) → is_path (λ p. p) has out_at into_at (map pos list) ≡ is_path pos edge out into list
  path_alike number list h =
      ap (λ b. b && are_different (λ p. p) has out_at into_at (map pos list)) (closes_alike list (are_members pos edge out into members number list h)) ∙ ap (λ b. closes pos edge out into list && b) (different_alike list)

  upto_alike : (number : ℕ) → least_path_upto (λ p. p) has out_at into_at positions number ≡ option_map (map pos) (least_path_upto pos edge out into members number)
  upto_alike zero = refl
  upto_alike (suc number) =
      ap (λ o. option_or o (find (is_path (λ p. p) has out_at into_at) (lists (λ p. p) has out_at into_at positions (suc number)))) (upto_alike number)
      ∙ ap (λ ls. option_or (option_map (map pos) (least_path_upto pos edge out into members number)) (find (is_path (λ p. p) has out_at into_at) ls)) (lists_alike (suc number))
      ∙ ap (option_or (option_map (map pos) (least_path_upto pos edge out into members number)))
      (find_alike (map pos) (is_path pos edge out into) (is_path (λ p. p) has out_at into_at) (lists pos edge out into members (suc number)) (path_alike (suc number)))
      ∙ or_alike (map pos) (least_path_upto pos edge out into members number) (find (is_path pos edge out into) (lists pos edge out into members (suc number)))

  -- the least path among the positions is the list of the positions on the least path among the members
  pub least_alike : least_path (λ p. p) has out_at into_at positions ≡ option_map (map pos) (least_path pos edge out into members)
  least_alike = ap (least_path_upto (λ p. p) has out_at into_at positions) (length-map members pos) ∙ upto_alike (length members)
