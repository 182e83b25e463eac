-- The serial order places each member, and no edge leads back in it.
use Rattle.std.proofs.Common.{Bool, List, None, Option, Some, ap, arith, length, not, false, subst, suc, sym, true≢false, zero, [], ◌∙◌, ◌≡◌, ◌≤◌, ◌∷◌, ℕ}
use Rattle.node_model.specs.Order.{IsSerialOrder, is_free, order, order_from, place, take_first}
use Rattle.rw_graph.proofs.Cases.{not_true}
use Rattle.rw_graph.proofs.Lists.{In, Pairs, contains_from, each_from, each_passes, in_from}
use Rattle.serial_order.proofs.Each.{all_at, all_from}
use Rattle.serial_order.proofs.Picked.{picks_in}
use Rattle.serial_order.proofs.Searches.{all_pass}
use Rattle.serial_order.proofs.Sources.{sources_of}
use Rattle.serial_order.specs.Cycles.{HasNoCycle, HasSources}
use Rattle.serial_order.proofs.Taken.{IsTaken, Picks, all_pairs, nothing, pick, picks_permutation, taken, takes_length, takes_rest}
use Rattle.std.specs.Prelude.{Contains}

module _ {M : Type 0} (edge : M → M → Bool) (members : List M) (sources : HasSources edge members) where
  record Forward (set list : List M) : Type 0 where
    pub picks : Picks set list
    pub pairs : Pairs (λ earlier later. edge later earlier ≡ false) list

  some_free : (x : M) (xs : List M) → ((t : M) → In t (x ∷ xs) → In t members) → ((u : M) → In u (x ∷ xs) → is_free edge (x ∷ xs) u ≡ false) → ⊥
  some_free x xs member none =
      let s = sources x xs (all_from (Contains members) (x ∷ xs) (λ t h. contains_from members t (member t h))) in
      true≢false (sym (all_pass (λ t. not (edge t s.0)) (x ∷ xs) (λ t h. ap not (all_at (λ t. edge t s.0 ≡ false) (x ∷ xs) s.2 t h))) ∙ none s.0 (in_from (x ∷ xs) s.0 s.1))

  placed : (times : ℕ) (set : List M) → length set ≤ times → ((t : M) → In t set → In t members) → Forward set (order_from edge times set)
  placed zero [] short member = record { picks = nothing; pairs = tt }
  placed zero (x ∷ xs) short member = absurd (omega (arith, short))
  placed (suc n) [] short member = record { picks = nothing; pairs = tt }
  placed (suc n) (x ∷ xs) short member = after (take_first (is_free edge (x ∷ xs)) (x ∷ xs)) (taken (is_free edge (x ∷ xs)) (x ∷ xs)) (placed n)
    where
      after : (o : Option (M × List M)) → IsTaken (is_free edge (x ∷ xs)) (x ∷ xs) o
          → ((rest : List M) → length rest ≤ n → ((t : M) → In t rest → In t members) → Forward rest (order_from edge n rest))
          → Forward (x ∷ xs) (place (order_from edge n) o)
      after None none go = absurd (some_free x xs member none)
      after (Some r) h go =
          let long = takes_length (x ∷ xs) r.1 h.0 in
          let f = go r.1 (omega (arith, short)) (λ t k. member t (takes_rest (x ∷ xs) r.1 h.0 t k)) in
          record {
            picks = pick h.0 f.picks;
            pairs = (
              each_from (λ t. edge t r.0 ≡ false) (order_from edge n r.1) (λ t k.
                  not_true _ (each_passes (λ t. not (edge t r.0)) (x ∷ xs) h.1 t (takes_rest (x ∷ xs) r.1 h.0 t (picks_in r.1 _ f.picks t k)))),
              f.pairs,
            );
          }

  pub serial : IsSerialOrder edge members (order edge members)
  serial =
      let f = placed (length members) members (omega arith) (λ t h. h) in
      record { permutation = picks_permutation members _ f.picks; forward = all_pairs (λ earlier later. edge later earlier ≡ false) _ f.pairs }

-- the list that is the serial order, where there is no cycle
pub serial_if : {M : Type 0} (edge : M → M → Bool) (members list : List M) → list ≡ order edge members → HasNoCycle edge members → IsSerialOrder edge members list
serial_if edge members list is acyclic = subst (IsSerialOrder edge members) (sym is) (serial edge members (sources_of edge members acyclic))
