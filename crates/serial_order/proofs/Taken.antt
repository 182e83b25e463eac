-- One element taken out of a list, and a list made by taking out one after another.
use Rattle.std.proofs.Common.{◌≡◌, ℕ, ◌+◌, refl, sym, ap, subst, ◌∙◌, List, [], ◌∷◌, length, Bool, true, false, cond, Option, Some, None, arith, inl, inr, ◌⊎◌, ⊎_elim, true≢false}
use Rattle.std.specs.Prelude.{AllPairs, IsPermutation, ◌≢◌}
use Rattle.std.specs.List.{AllByRecursion}
use Rattle.std.specs.Option.{option_map}
use Rattle.std.proofs.lemmas.List.Elements.{All-from_recursion}
use Rattle.std.proofs.lemmas.List.Kept.{AllPairs-cons}
use Rattle.std.proofs.lemmas.List.Sorted.{IsPermutation-refl, IsPermutation-cons, IsPermutation-trans, IsPermutation-middle}
use Rattle.std.proofs.lemmas.Map.Keys.{IsDistinct-IsPermutation, IsDistinct-from_apart, apart_from_distinct}
use Rattle.std.proofs.lemmas.Bool.{eq-eqb}
use Rattle.std.proofs.lemmas.Bool.Decides.{eqb_tells}
use Rattle.std.specs.Bool.{nat_eq}
use Rattle.std.specs.Cmp.{nat_eq_equiv}
use Rattle.node_model.specs.Order.{take_first}
use Rattle.rw_graph.proofs.Lists.{In, Pairs, each_at, each_from, pairs_from}

-- rest is what xs has beside u
pub data Takes {M : Type 0} (u : M) : List M → List M → Type 0 where
  here : {xs : List M} → Takes u (u ∷ xs) xs
  there : {x : M} {xs rest : List M} → Takes u xs rest → Takes u (x ∷ xs) (x ∷ rest)

-- the list is the set's elements one after another
pub data Picks {M : Type 0} : List M → List M → Type 0 where
  nothing : Picks [] []
  pick : {u : M} {set rest list : List M} → Takes u set rest → Picks rest list → Picks set (u ∷ list)

abbrev pub IsTaken : {M : Type 0} → (M → Bool) → List M → Option (M × List M) → Type 0
IsTaken p xs None = (x : _) → In x xs → p x ≡ false
IsTaken p xs (Some r) = Takes r.0 xs r.1 × (p r.0 ≡ true)

module _ {M : Type 0} where
  pub taken : (p : M → Bool) (xs : List M) → IsTaken p xs (take_first p xs)
  taken p [] = λ x h. absurd h
  taken p (x ∷ xs) = step (p x) refl (take_first p xs) (taken p xs)
    where
      step : (b : Bool) → p x ≡ b → (o : Option (M × List M)) → IsTaken p xs o → IsTaken p (x ∷ xs) (cond b (Some (x, xs)) (option_map (λ r. (r.0, x ∷ r.1)) o))
      step true e o h = (here, e)
      step false e None h = λ y k. ⊎_elim (λ same. subst (λ z. p z ≡ false) same e) (λ k. h y k) k
      step false e (Some r) h = (there h.0, h.1)

  pub takes_in : {u : M} (xs rest : List M) → Takes u xs rest → In u xs
  takes_in xs rest here = inl refl
  takes_in xs rest (there {xs = ys} {rest = more} t) = inr (takes_in ys more t)

  pub takes_rest : {u : M} (xs rest : List M) → Takes u xs rest → (x : M) → In x rest → In x xs
  takes_rest xs rest here x h = inr h
  takes_rest xs rest (there {xs = ys} {rest = more} t) x (inl e) = inl e
  takes_rest xs rest (there {xs = ys} {rest = more} t) x (inr h) = inr (takes_rest ys more t x h)

  pub takes_length : {u : M} (xs rest : List M) → Takes u xs rest → length xs ≡ length rest + 1
  takes_length xs rest here = omega arith
  takes_length xs rest (there {xs = ys} {rest = more} t) = let e = takes_length ys more t in omega arith

  pub takes_permutation : {u : M} (xs rest : List M) → Takes u xs rest → IsPermutation xs (u ∷ rest)
  takes_permutation xs rest here = IsPermutation-refl _
  takes_permutation {u} xs rest (there {x = x} {xs = ys} {rest = more} t) =
      IsPermutation-trans _ _ _ (IsPermutation-cons x _ _ (takes_permutation ys more t)) (IsPermutation-middle (x ∷ []) u more)

  pub takes_each : {u : M} (P : M → Type 0) (xs rest : List M) → Takes u xs rest → AllByRecursion P xs → AllByRecursion P rest
  takes_each P xs rest t all = each_from P rest (λ x h. each_at P xs all x (takes_rest xs rest t x h))

  pub takes_pairs : {u : M} (R : M → M → Type 0) (xs rest : List M) → Takes u xs rest → Pairs R xs → Pairs R rest
  takes_pairs R xs rest here h = h.1
  takes_pairs R xs rest (there {x = x} {xs = ys} {rest = more} t) h = (takes_each (R x) ys more t h.0, takes_pairs R ys more t h.1)

  -- u stands with each of the others, in one order or the other
  pub takes_beside : {u : M} (R : M → M → Type 0) (xs rest : List M) → Takes u xs rest → Pairs R xs → (x : M) → In x rest → R u x ⊎ R x u
  takes_beside {u} R xs rest here h x k = inl (each_at (R u) _ h.0 x k)
  takes_beside {u} R xs rest (there {x = y} {xs = ys} {rest = more} t) h x (inl e) = inr (subst (λ z. R z u) e (each_at (R y) ys h.0 u (takes_in ys more t)))
  takes_beside {u} R xs rest (there {x = y} {xs = ys} {rest = more} t) h x (inr k) = takes_beside R ys more t h.1 x k

  pub picks_permutation : (set list : List M) → Picks set list → IsPermutation set list
  picks_permutation set list nothing = IsPermutation-refl []
  picks_permutation set list (pick {u = u} {rest = rest} {list = more} t p) =
      IsPermutation-trans _ _ _ (takes_permutation set rest t) (IsPermutation-cons u _ _ (picks_permutation rest more p))

  pub all_pairs : (R : M → M → Type 0) (xs : List M) → Pairs R xs → AllPairs R xs
  all_pairs R [] h = λ i j d lt within. absurd (omega (arith, within))
  all_pairs R (x ∷ xs) h = AllPairs-cons R x xs (All-from_recursion (R x) xs h.0) (all_pairs R xs h.1)

  -- x is the one taken, or one of the others
  pub takes_other : {u : M} (xs rest : List M) → Takes u xs rest → (x : M) → In x xs → (u ≡ x) ⊎ In x rest
  takes_other xs rest here x (inl e) = inl e
  takes_other xs rest here x (inr h) = inr h
  takes_other xs rest (there {xs = ys} {rest = more} t) x (inl e) = inr (inl e)
  takes_other xs rest (there {xs = ys} {rest = more} t) x (inr h) = ⊎_elim (λ e. inl e) (λ k. inr (inr k)) (takes_other ys more t x h)

  pub takes_from : (u : M) (xs : List M) → In u xs → (rest : List M) × Takes u xs rest
  takes_from u [] h = absurd h
  takes_from u (x ∷ xs) (inl e) = (xs, subst (λ z. Takes u (z ∷ xs) xs) (sym e) here)
  takes_from u (x ∷ xs) (inr h) = let r = takes_from u xs h in (x ∷ r.0, there r.1)

  pub apart_again : (key : M → ℕ) (set list : List M) → Pairs (λ x y. key x ≢ key y) set → IsPermutation set list → Pairs (λ x y. key x ≢ key y) list
  apart_again key set list far p =
      let same : M → M → Bool = λ x y. nat_eq (key x) (key y) in
      let d = IsDistinct-IsPermutation same (λ x y. nat_eq_equiv.symm (key x) (key y)) set list p
      (IsDistinct-from_apart same set (λ i j d lt within. tells_not _ _ (all_pairs (λ x y. key x ≢ key y) set far i j d lt within))) in
      pairs_from (λ x y. key x ≢ key y) list (λ i j d' lt within e. true≢false (sym (eq-eqb _ _ e) ∙ apart_from_distinct same list i j d' d lt within))
    where
      tells_not : (m n : ℕ) → m ≢ n → nat_eq m n ≡ false
      tells_not m n differ = ⊎_elim (λ same. absurd (differ same.1)) (λ other. other.0) (eqb_tells m n)

  -- a list of as many elements of the set, with no two alike
  pub picks_within : (key : M → ℕ) (list set : List M) → length set ≡ length list → Pairs (λ x y. key x ≢ key y) list → ((x : M) → In x list → In x set) → Picks set list
  picks_within key [] [] same apart back = nothing
  picks_within key [] (x ∷ set) same apart back = absurd (omega (arith, same))
  picks_within key (u ∷ list) set same apart back =
      let t = takes_from u set (back u (inl refl)) in
      pick t.1 (picks_within key list t.0 (omega (arith, same, takes_length set t.0 t.1)) apart.1
      (λ x h. ⊎_elim (λ e. absurd (each_at (λ x. key u ≢ key x) list apart.0 x h (ap key e))) (λ k. k) (takes_other set t.0 t.1 x (back x (inr h)))))
