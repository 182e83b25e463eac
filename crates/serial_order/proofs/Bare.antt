-- The serial order where there is no edge.
use Rattle.std.proofs.Common.{Bool, List, Some, ap, cond, false, length, not, refl, sym, true, [], ◌&&◌, ◌∙◌, ◌≡◌, ◌∷◌}
use Rattle.node_model.specs.Order.{IsSerialOrder, is_free, order, order_from, place, take_first}
use Rattle.serial_order.proofs.Placed.{serial_if}
use Rattle.serial_order.specs.Cycles.{HasNoCycle}
use Rattle.std.specs.Option.{option_map}
use Rattle.std.specs.Prelude.{Err, IfOk, Ok, Result}

module _ {M : Type 0} (edge : M → M → Bool) where
  module _ (none : (from to : M) → edge from to ≡ false) where
    all_free : (to : M) (members : List M) → is_free edge members to ≡ true
    all_free to [] = refl
    all_free to (from ∷ rest) = ap (λ b. not b && is_free edge rest to) (none from to) ∙ all_free to rest

    -- the first is free, again and again
    order_bare : (members : List M) → order edge members ≡ members
    order_bare [] = refl
    order_bare (first ∷ rest) =
        ap (λ b. place (order_from edge (length rest)) (cond b (Some (first, rest)) (option_map (λ taken. (taken.0, first ∷ taken.1)) (take_first (is_free edge (first ∷ rest)) rest)))) (all_free first (first ∷ rest))
        ∙ ap (λ others. first ∷ others) (order_bare rest)

    pub bare_order : {E : Type 0} (members : List M) (result : Result (List M) E) → IfOk result (λ list. list ≡ members) → IfOk result (λ list. list ≡ order edge members)
    bare_order members (Ok list) is = is ∙ sym (order_bare members)
    bare_order members (Err failure) is = tt

  -- what is the serial order is a serial order, where there is no cycle
  pub order_serial : {E : Type 0} (members : List M) (result : Result (List M) E) → IfOk result (λ list. list ≡ order edge members)
      → IfOk result (λ list. HasNoCycle edge members → IsSerialOrder edge members list)
  order_serial members (Ok list) is = serial_if edge members list is
  order_serial members (Err failure) is = tt
