-- The order of the positions of members is the positions of the order of the members.
use Rattle.std.proofs.Common.{Bool, List, None, Option, Some, ap, arith, false, inl, inr, length, map, not, refl, subst, suc, zero, [], ⊎_elim, ◌&&◌, ◌<◌, ◌||◌, ◌∙◌, ◌≡◌, ◌∷◌, ℕ}
use Rattle.node_model.specs.Edges.{edge, edge_at}
use Rattle.node_model.specs.Order.{is_free, order, order_from, place, take_first}
use Rattle.rw_graph.proofs.Lists.{In, Pairs, each_at, pairs_from}
use Rattle.serial_laws.specs.Laws.{OrderByPosition}
use Rattle.serial_order.proofs.Mapped.{both, take_first-map}
use Rattle.serial_order.proofs.Taken.{IsTaken, taken, takes_rest}
use Rattle.std.proofs.lemmas.Bool.Decides.{eqb_tells}
use Rattle.std.proofs.lemmas.Bool.{eq-eqb}
use Rattle.std.proofs.lemmas.List.{length-map}
use Rattle.std.specs.Bool.{nat_eq}
use Rattle.std.specs.List.{list_all, list_any}
use Rattle.std.specs.Option.{option_map}
use Rattle.std.specs.Prelude.{◌≢◌}
use Rattle.rel_base.proofs.Bits.{or_false}

module _ {M : Type 0} (pos : M → ℕ) where
  all_map : (p : M → Bool) (q : ℕ → Bool) (xs : List M) → ((x : M) → In x xs → q (pos x) ≡ p x) → list_all q (map pos xs) ≡ list_all p xs
  all_map p q [] same = refl
  all_map p q (x ∷ xs) same = ap (λ b. b && list_all q (map pos xs)) (same x (inl refl)) ∙ ap (λ b. p x && b) (all_map p q xs (λ y h. same y (inr h)))

  module _ (edge : M → M → Bool) (has : ℕ → ℕ → Bool) (members : List M) (same : (from : M) → In from members → (to : M) → In to members → has (pos from) (pos to) ≡ edge from to) where
    order_from-map : (times : ℕ) (set : List M) → ((t : M) → In t set → In t members) → order_from has times (map pos set) ≡ map pos (order_from edge times set)
    order_from-map zero set member = refl
    order_from-map (suc times) set member =
        ap (place (order_from has times)) (take_first-map pos (is_free edge set) (is_free has (map pos set)) set (λ u h.
        all_map (λ t. not (edge t u)) (λ t. not (has t (pos u))) set (λ t k. ap not (same t (member t k) u (member u h)))))
        ∙ rest (take_first (is_free edge set) set) (taken (is_free edge set) set) (order_from-map times)
      where
        rest : (o : Option (M × List M)) → IsTaken (is_free edge set) set o
            → ((others : List M) → ((t : M) → In t others → In t members) → order_from has times (map pos others) ≡ map pos (order_from edge times others))
            → place (order_from has times) (option_map (both pos) o) ≡ map pos (place (order_from edge times) o)
        rest None h go = refl
        rest (Some r) h go = ap (λ l. pos r.0 ∷ l) (go r.1 (λ t k. member t (takes_rest set r.1 h.0 t k)))

    order-map : order has (map pos members) ≡ map pos (order edge members)
    order-map = ap (λ times. order_from has times (map pos members)) (length-map members pos) ∙ order_from-map (length members) members (λ t h. h)

  abbrev RisesBy : M → M → Type 0
  RisesBy earlier later = pos earlier < pos later

  none_at : (place : ℕ) (test : M → Bool) (xs : List M) → ((x : M) → In x xs → pos x ≢ place) → list_any (λ x. nat_eq (pos x) place && test x) xs ≡ false
  none_at place test [] other = refl
  none_at place test (x ∷ xs) other =
      ap (λ b. (b && test x) || list_any (λ x. nat_eq (pos x) place && test x) xs) (⊎_elim (λ same. absurd (other x (inl refl) same.1)) (λ differ. differ.0) (eqb_tells (pos x) place))
      ∙ none_at place test xs (λ y h. other y (inr h))

  -- a test of the member at a position is a test of that member
  at_place : (members : List M) → Pairs RisesBy members → (one : M) → In one members → (test : M → Bool) → list_any (λ x. nat_eq (pos x) (pos one) && test x) members ≡ test one
  at_place [] rise one h test = absurd h
  at_place (x ∷ xs) rise one (inl same) test =
      subst (λ one. list_any (λ x. nat_eq (pos x) (pos one) && test x) (x ∷ xs) ≡ test one) same
      (ap (λ b. (b && test x) || list_any (λ y. nat_eq (pos y) (pos x) && test y) xs) (eq-eqb (pos x) (pos x) refl)
      ∙ ap (λ b. test x || b) (none_at (pos x) test xs (λ y h e. let up = each_at (RisesBy x) xs rise.0 y h in omega (arith, up, e))) ∙ or_false (test x))
  at_place (x ∷ xs) rise one (inr h) test =
      ap (λ b. (b && test x) || list_any (λ y. nat_eq (pos y) (pos one) && test y) xs)
      (⊎_elim (λ same. absurd (let up = each_at (RisesBy x) xs rise.0 one h in let e = same.1 in omega (arith, up, e))) (λ differ. differ.0) (eqb_tells (pos x) (pos one)))
      ∙ at_place xs rise.1 one h test

pub order_by_position : OrderByPosition
order_by_position tables committed rise =
    let pairs = pairs_from (λ earlier later. earlier.pos < later.pos) committed rise in
    order-map (λ done. done.pos) (edge tables) (edge_at tables committed) committed (λ from h to k.
    at_place (λ done. done.pos) committed pairs from h (λ first. list_any (λ second. nat_eq second.pos to.pos && edge tables first second) committed) ∙ at_place (λ done. done.pos) committed pairs to k (edge tables from))
