-- The test passes exactly the serial orders.
use Rattle.std.proofs.Common.{◌≡◌, ℕ, ◌<◌, refl, sym, ap, ◌∙◌, List, [], ◌∷◌, length, Bool, true, false, not, ◌||◌, arith, inl, inr, ⊎_elim, true≢false}
use Rattle.std.specs.Prelude.{AllPairs, ◌≢◌}
use Rattle.std.specs.Bool.{nat_eq}
use Rattle.std.specs.List.{list_all, list_any}
use Rattle.std.proofs.lemmas.Bool.{eqb-true, eq-eqb}
use Rattle.std.proofs.lemmas.Bool.Decides.{eqb_tells}
use Rattle.std.proofs.lemmas.List.Sorted.{length_permutation, Contains-permutation, IsPermutation-sym}
use Rattle.node_model.specs.Order.{IsSerialOrder}
use Rattle.rw_graph.proofs.Cases.{not_true}
use Rattle.rw_graph.proofs.Lists.{pairs_from, In, Pairs, pairs_both, pairs_weaker, in_from, contains_from, each_at, each_from, each_passes}
use Rattle.serial_order.proofs.Taken.{picks_within, picks_permutation, all_pairs, apart_again}
use Rattle.serial_order.specs.Checking.{may_follow, all_follow, is_serial}
use Rattle.rel_base.proofs.Bits.{both_true, first_true, or_true, second_true}

any_in : (u : ℕ) (xs : List ℕ) → list_any (nat_eq u) xs ≡ true → In u xs
any_in u [] e = absurd (true≢false (sym e))
any_in u (x ∷ xs) e = ⊎_elim (λ same. inl (sym same.1)) (λ other. inr (any_in u xs (rw other.0 at e))) (eqb_tells u x)

in_any : (u : ℕ) (xs : List ℕ) → In u xs → list_any (nat_eq u) xs ≡ true
in_any u [] h = absurd h
in_any u (x ∷ xs) (inl e) = ap (λ b. b || list_any (nat_eq u) xs) (eq-eqb u x (sym e))
in_any u (x ∷ xs) (inr h) = ap (λ b. nat_eq u x || b) (in_any u xs h) ∙ or_true (nat_eq u x)

pub all_pass : {M : Type 0} (p : M → Bool) (xs : List M) → ((x : M) → In x xs → p x ≡ true) → list_all p xs ≡ true
all_pass p [] f = refl
all_pass p (x ∷ xs) f = both_true (p x) _ (f x (inl refl)) (all_pass p xs (λ y h. f y (inr h)))

module _ (has : ℕ → ℕ → Bool) where
  abbrev MayFollow : ℕ → ℕ → Type 0
  MayFollow u t = (u ≢ t) × (has t u ≡ false)

  follows : (u t : ℕ) → may_follow has u t ≡ true → MayFollow u t
  follows u t e = ((λ same. true≢false (sym (eq-eqb u t same) ∙ not_true _ (first_true (not (nat_eq u t)) _ e))), not_true _ (second_true (not (nat_eq u t)) _ e))

  may : (u t : ℕ) → MayFollow u t → may_follow has u t ≡ true
  may u t h = both_true (not (nat_eq u t)) _ (⊎_elim (λ same. absurd (h.0 same.1)) (λ other. ap not other.0) (eqb_tells u t)) (ap not h.1)

  pairs_of : (list : List ℕ) → all_follow has list ≡ true → Pairs MayFollow list
  pairs_of [] e = tt
  pairs_of (u ∷ ts) e = (each_from (MayFollow u) ts (λ t h. follows u t (each_passes (may_follow has u) ts (first_true (list_all (may_follow has u) ts) _ e) t h)), pairs_of ts (second_true (list_all (may_follow has u) ts) _ e))

  of_pairs : (list : List ℕ) → Pairs MayFollow list → all_follow has list ≡ true
  of_pairs [] h = refl
  of_pairs (u ∷ ts) h = both_true (list_all (may_follow has u) ts) _ (all_pass (may_follow has u) ts (λ t k. may u t (each_at (MayFollow u) ts h.0 t k))) (of_pairs ts h.1)

  pub sound : (places list : List ℕ) → is_serial has places list ≡ true → IsSerialOrder has places list
  sound places list e =
      let rest = second_true (nat_eq (length places) (length list)) _ e in
      let pairs = pairs_of list (second_true (list_all (λ u. list_any (nat_eq u) places) list) _ rest) in
      record {
        permutation = picks_permutation places list (picks_within (λ p. p) list places (eqb-true _ _ (first_true (nat_eq (length places) (length list)) _ e)) (pairs_weaker MayFollow (λ u t. u ≢ t) (λ u t h. h.0) list pairs)
            (λ u h. any_in u places (each_passes (λ u. list_any (nat_eq u) places) list (first_true (list_all (λ u. list_any (nat_eq u) places) list) _ rest) u h)));
        forward = all_pairs (λ u t. has t u ≡ false) list (pairs_weaker MayFollow (λ u t. has t u ≡ false) (λ u t h. h.1) list pairs);
      }

  pub complete : (places list : List ℕ) → AllPairs (λ p q. p < q) places → IsSerialOrder has places list → is_serial has places list ≡ true
  complete places list rises order =
      both_true (nat_eq (length places) (length list)) _ (eq-eqb _ _ (sym (length_permutation places list order.permutation)))
      (both_true (list_all (λ u. list_any (nat_eq u) places) list) _
      (all_pass (λ u. list_any (nat_eq u) places) list (λ u h. in_any u places (in_from places u (Contains-permutation list places u (IsPermutation-sym places list order.permutation) (contains_from list u h)))))
      (of_pairs list (pairs_both (λ u t. u ≢ t) (λ u t. has t u ≡ false) MayFollow (λ u t n e. (n, e)) list
      (apart_again (λ p. p) places list (pairs_weaker (λ p q. p < q) (λ p q. p ≢ q) (λ p q lt e. omega (arith, lt, e)) places (pairs_from (λ p q. p < q) places rises)) order.permutation)
      (pairs_from (λ u t. has t u ≡ false) list order.forward))))
