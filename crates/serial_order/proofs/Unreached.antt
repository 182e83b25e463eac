-- How many edges come to a position, and positions without an edge.
use Rattle.std.proofs.Common.{ap, arith, cond, map, refl, sym, Bool, List, true, false, [], ◌&&◌, ◌+◌, ◌-◌, ◌∙◌, ◌≡◌, ◌∷◌, ℕ}
use Rattle.std.proofs.lemmas.List.Sums.{sum_by-cons}
use Rattle.rel_base.proofs.Bits.{no_both, not_true, second_true}
use Rattle.rw_graph.specs.Sets.{is_among}
use Rattle.serial_order.specs.Counts.{predecessors, lowered}
use Rattle.serial_order.specs.declared.left.Left.{Left}

plus : (n : ℕ) → 0 + n ≡ n
plus n = omega arith

minus : (n : ℕ) → n - 0 ≡ n
minus n = omega arith

module _ (has : ℕ → ℕ → Bool) where
  -- one position more
  pub comers-cons : (to from : ℕ) (rest : List ℕ) → predecessors has (from ∷ rest) to ≡ cond (has from to) 1 0 + predecessors has rest to
  comers-cons to from rest = sum_by-cons (λ from. cond (has from to) 1 0) from rest

  -- no position has an edge to one to which none comes
  pub comers_none : (to : ℕ) (set : List ℕ) → ((from : ℕ) → has from to ≡ false) → predecessors has set to ≡ 0
  comers_none to [] none = refl
  comers_none to (from ∷ rest) none = comers-cons to from rest ∙ ap (λ b. cond b 1 0 + predecessors has rest to) (none from) ∙ plus (predecessors has rest to) ∙ comers_none to rest none

  -- no edge comes to what is not among positions between which all edges are
  pub unreached : (to : ℕ) (set : List ℕ) → ((from to : ℕ) → has from to ≡ true → (is_among set from && is_among set to) ≡ true) → is_among set to ≡ false → (from : ℕ) → has from to ≡ false
  unreached to set between absent from =
      not_true (has from to) (λ is. no_both (is_among set to) (second_true (is_among set from) (is_among set to) (between from to is)) absent)

  -- an entry keeps its count when one is placed from which no edge leads
  kept : (from : ℕ) (entry : Left) → ((to : ℕ) → has from to ≡ false) → lowered has from entry ≡ entry
  kept from entry none = ap (λ b. record { pos = entry.pos; predecessors = entry.predecessors - cond b 1 0 }) (none entry.pos) ∙ ap (λ n. record { pos = entry.pos; predecessors = n }) (minus entry.predecessors)

  pub lowered_none : (from : ℕ) (left : List Left) → ((to : ℕ) → has from to ≡ false) → left ≡ map (lowered has from) left
  lowered_none from [] none = refl
  lowered_none from (entry ∷ rest) none = ap (λ e. e ∷ rest) (sym (kept from entry none)) ∙ ap (λ l. lowered has from entry ∷ l) (lowered_none from rest none)
