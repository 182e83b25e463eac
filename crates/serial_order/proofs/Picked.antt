-- What holds of a set and of a list that picks its elements one after another.
use Rattle.std.proofs.Common.{List, ap, inl, inr, refl, subst, sym, ⊎_elim, [], ◌∷◌, ℕ}
use Rattle.rw_graph.proofs.Lists.{In, Pairs, contains_from, each_at, each_from, in_from}
use Rattle.serial_order.proofs.Taken.{Picks, apart_again, nothing, pick, takes_beside, takes_from, takes_in, takes_other, takes_pairs, takes_rest}
use Rattle.std.proofs.lemmas.List.Sorted.{Contains-permutation, IsPermutation-sym}
use Rattle.std.specs.Prelude.{IsPermutation, ◌≢◌}

module _ {M : Type 0} where
  pub picks_in : (set list : List M) → Picks set list → (x : M) → In x list → In x set
  picks_in set list nothing x h = h
  picks_in set list (pick {rest = rest} {list = more} t p) x (inl e) = subst (λ z. In z set) e (takes_in set rest t)
  picks_in set list (pick {rest = rest} {list = more} t p) x (inr h) = takes_rest set rest t x (picks_in rest more p x h)

  -- what holds of any two of the set, in either order, holds of any two of the list
  pub picks_pairs : (R : M → M → Type 0) → ((x y : M) → R x y → R y x) → (set list : List M) → Picks set list → Pairs R set → Pairs R list
  picks_pairs R turn set list nothing h = tt
  picks_pairs R turn set list (pick {u = u} {rest = rest} {list = more} t p) h =
      (each_from (R u) more (λ x k. ⊎_elim (λ r. r) (λ r. turn x u r) (takes_beside R set rest t h x (picks_in rest more p x k))), picks_pairs R turn rest more p (takes_pairs R set rest t h))

  -- two lists of the same elements, with no two alike in either
  picks_from : (key : M → ℕ) (list set : List M) → Pairs (λ x y. key x ≢ key y) set → Pairs (λ x y. key x ≢ key y) list
      → ((x : M) → In x set → In x list) → ((x : M) → In x list → In x set) → Picks set list
  picks_from key [] [] far apart to back = nothing
  picks_from key [] (x ∷ set) far apart to back = absurd (to x (inl refl))
  picks_from key (u ∷ list) set far apart to back =
      let t = takes_from u set (back u (inl refl)) in
      pick t.1 (picks_from key list t.0 (takes_pairs _ set t.0 t.1 far) apart.1
      (λ x h. ⊎_elim (λ e. absurd (⊎_elim (λ d. d (ap key e)) (λ d. d (sym (ap key e))) (takes_beside (λ x y. key x ≢ key y) set t.0 t.1 far x h))) (λ k. k) (to x (takes_rest set t.0 t.1 x h)))
      (λ x h. ⊎_elim (λ e. absurd (each_at (λ x. key u ≢ key x) list apart.0 x h (ap key e))) (λ k. k) (takes_other set t.0 t.1 x (back x (inr h)))))

  -- a list is picked of each list that it permutes, where no two are alike
  pub picks_from_permutation : (key : M → ℕ) (set list : List M) → Pairs (λ x y. key x ≢ key y) set → IsPermutation set list → Picks set list
  picks_from_permutation key set list far p =
      picks_from key list set far (apart_again key set list far p)
      (λ x h. in_from list x (Contains-permutation set list x p (contains_from set x h)))
      (λ x h. in_from set x (Contains-permutation list set x (IsPermutation-sym set list p) (contains_from list x h)))
