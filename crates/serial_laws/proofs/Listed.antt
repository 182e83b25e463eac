-- A list of different members is one of those that are tried, so where none of these is a path there is none.
use Rattle.std.proofs.Common.{All, ap, arith, false, inl, inr, length, map, not, refl, subst, suc, sym, true, zero, Bool, List, None, Option, Some, [], ◌++◌, ◌<◌, ◌∙◌, ◌∷◌, ◌≡◌, ◌≤◌, ⊎_elim, ℕ}
use Rattle.node_model.specs.Paths.{are_different, closes, is_path, leads_back, least_path, least_path_upto, lists}
use Rattle.rel_base.proofs.Bits.{both_true, first_true, no_both, second_true}
use Rattle.rw_graph.proofs.Cases.{not_true}
use Rattle.rw_graph.proofs.Different.{AreMembers, shorten}
use Rattle.rw_graph.proofs.Firsts.{any_in, is_some_find}
use Rattle.rw_graph.proofs.Lists.{In, each_passes, in_from}
use Rattle.serial_order.proofs.Each.{all_at}
use Rattle.serial_order.proofs.Taken.{takes_from, takes_length, takes_other}
use Rattle.std.proofs.lemmas.Bool.{cases_lt, eq-eqb}
use Rattle.std.specs.Bool.{nat_eq}
use Rattle.std.specs.List.{flat_map, list_all}
use Rattle.std.specs.Option.{option_or}
use Rattle.std.specs.Prelude.{Contains, find, is_some}

pub left_in : {X : Type 0} (xs ys : List X) (x : X) → In x xs → In x (xs ++ ys)
left_in [] ys x h = absurd h
left_in (y ∷ xs) ys x (inl e) = inl e
left_in (y ∷ xs) ys x (inr h) = inr (left_in xs ys x h)

right_in : {X : Type 0} (xs ys : List X) (x : X) → In x ys → In x (xs ++ ys)
right_in [] ys x h = h
right_in (y ∷ xs) ys x h = inr (right_in xs ys x h)

flat_in : {X Y : Type 0} (g : Y → List X) (ys : List Y) (y : Y) (x : X) → In y ys → In x (g y) → In x (flat_map g ys)
flat_in g [] y x h k = absurd h
flat_in g (z ∷ ys) y x (inl e) k = left_in (g z) (flat_map g ys) x (subst (λ w. In x (g w)) (sym e) k)
flat_in g (z ∷ ys) y x (inr h) k = right_in (g z) (flat_map g ys) x (flat_in g ys y x h k)

map_in : {X Y : Type 0} (f : Y → X) (ys : List Y) (y : Y) → In y ys → In (f y) (map f ys)
map_in f [] y h = absurd h
map_in f (z ∷ ys) y (inl e) = inl (ap f e)
map_in f (z ∷ ys) y (inr h) = inr (map_in f ys y h)

none_or : {X : Type 0} (a b : Option X) → option_or a b ≡ None → (a ≡ None) × (b ≡ None)
none_or None b e = (refl, e)
none_or (Some x) b e = cc

module _ {M : Type 0} (pos : M → ℕ) (edge : M → M → Bool) (out into : M → Bool) where
  -- a list of members is among the lists of so many
  pub listed : (members list : List M) → AreMembers pos edge out into members list → In list (lists pos edge out into members (length list))
  listed members [] inside = inl refl
  listed members (first ∷ rest) inside =
      flat_in (λ first. map (λ rest. first ∷ rest) (lists pos edge out into members (length rest))) members first (first ∷ rest) (inside first (inl refl))
      (map_in (λ rest. first ∷ rest) (lists pos edge out into members (length rest)) rest (listed members rest (λ m h. inside m (inr h))))

  -- different members are not more than all
  pub not_more : (members list : List M) → AreMembers pos edge out into members list → are_different pos edge out into list ≡ true → length list ≤ length members
  not_more members [] inside different = omega arith
  not_more members (first ∷ rest) inside different =
      let taken = takes_from first members (inside first (inl refl)) in
      let size = takes_length members taken.0 taken.1 in
      let apart = first_true (list_all (λ other. not (nat_eq (pos first) (pos other))) rest) (are_different pos edge out into rest) different in
      let more = not_more taken.0 rest
      (λ m h. ⊎_elim
      (λ same. absurd (no_both (nat_eq (pos first) (pos m)) (eq-eqb (pos first) (pos m) (ap pos same)) (not_true (nat_eq (pos first) (pos m)) (each_passes (λ other. not (nat_eq (pos first) (pos other))) rest apart m h))))
      (λ k. k) (takes_other members taken.0 taken.1 m (inside m (inr h))))
      (second_true (list_all (λ other. not (nat_eq (pos first) (pos other))) rest) (are_different pos edge out into rest) different) in
      omega (arith, size, more)

  module _ (members : List M) where
    pub none_at : (number : ℕ) → least_path_upto pos edge out into members number ≡ None → (less : ℕ) → less < number → find (is_path pos edge out into) (lists pos edge out into members (suc less)) ≡ None
    none_at zero none less low = absurd (omega (arith, low))
    none_at (suc number) none less low =
        let both = none_or (least_path_upto pos edge out into members number) (find (is_path pos edge out into) (lists pos edge out into members (suc number))) none in
        ⊎_elim
        (λ below. none_at number both.0 less below)
        (λ here. let same : less ≡ number = omega (arith, low, here) in ap (λ n. find (is_path pos edge out into) (lists pos edge out into members (suc n))) same ∙ both.1)
        (cases_lt less number)

    -- a path of members is found among the lists of its length
    pub found_at : (list : List M) → AreMembers pos edge out into members list → is_path pos edge out into list ≡ true → is_some (find (is_path pos edge out into) (lists pos edge out into members (length list))) ≡ true
    found_at list inside path = is_some_find (is_path pos edge out into) (lists pos edge out into members (length list)) ∙ any_in (is_path pos edge out into) (lists pos edge out into members (length list)) list (listed members list inside) path

    pub no_path : least_path pos edge out into members ≡ None → (list : List M) → AreMembers pos edge out into members list → is_path pos edge out into list ≡ true → ⊥
    no_path none [] inside path = no_both false path refl
    no_path none (first ∷ rest) inside path =
        let few = not_more members (first ∷ rest) inside (second_true (closes pos edge out into (first ∷ rest)) (are_different pos edge out into (first ∷ rest)) path) in
        no_both false (sym (ap is_some (none_at (length members) none (length rest) (omega (arith, few)))) ∙ found_at (first ∷ rest) inside path) refl

    -- so no list of members closes, even if it has one twice
    pub none_closes : ((one other : M) → In one members → In other members → pos one ≡ pos other → one ≡ other) → least_path pos edge out into members ≡ None
        → (first : M) (rest : List M) → AreMembers pos edge out into members (first ∷ rest) → closes pos edge out into (first ∷ rest) ≡ true → ⊥
    none_closes same none first rest inside closed =
        let s = shorten pos edge out into members same first rest (inside first (inl refl)) (λ m h. inside m (inr h)) (second_true (out first) (leads_back pos edge out into first rest) closed) in
        no_path none (first ∷ s.tail) (λ m h. ⊎_elim (λ e. inside m (inl e)) (λ k. inside m (inr (s.inside m k))) h)
        (both_true (closes pos edge out into (first ∷ s.tail)) (are_different pos edge out into (first ∷ s.tail))
        (both_true (out first) (leads_back pos edge out into first s.tail) (first_true (out first) (leads_back pos edge out into first rest) closed) s.back) s.different)

  pub members_from : (members list : List M) → All (Contains members) list → AreMembers pos edge out into members list
  members_from members list all m h = in_from members m (all_at (Contains members) list all m h)
