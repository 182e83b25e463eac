use Rattle.std.proofs.Common.{◌≡◌, ◌∙◌, ℕ, List, None, Option, subst, sym, true}
use Rattle.std.specs.Borrow.{Bor}
use Rattle.std.specs.List.Sorted.{IsStrictlySortedBy}
use Rattle.std.specs.Option.{option_cmp}
use Rattle.std.specs.Ordering.{nat_cmp, ordering_then}
use Rattle.rel_base.specs.Value.{key_cmp}
use Rattle.rel_base.specs.declared.value.Value.{Value}
use Rattle.version_index.specs.Span.{are_rising, distinct, keys_in}
use Rattle.version_index.proofs.Distinct.{distinct_rises, kept_has, le_first, rises_sorted, rising_sorted, sorted_has}
use Rattle.version_index.proofs.span.in_order.Goals as goal

-- the keys are in order as they are
pub returns-then-are_rising-clause-rise : goal.returns-then-are_rising-clause-rise
returns-then-are_rising-clause-rise c =
    rising_sorted (keys_in c.args.found.items)
    (subst (λ (found : List (Bor (List Value) × Option ℕ)). are_rising None (keys_in found) ≡ true) c.as_slice.ensures.value (sym c.are_rising.ensures ∙ c.if-are_rising.true))

-- they are in order after the sort
pub returns-clause-rise : goal.returns-clause-rise
returns-clause-rise c =
    let found = c.sort.new.self.items in
    subst (IsStrictlySortedBy key_cmp) (sym (c.in_ok-kept.ensures.keys ∙ (λ i. distinct None (keys_in (c.as_slice-2.ensures.value i)))))
    (distinct_rises (keys_in found)
    (rises_sorted (λ (a b : Bor (List Value) × Option ℕ). ordering_then (key_cmp a.0.now b.0.now) (option_cmp nat_cmp a.1 b.1)) (λ a. a.0.now) (λ a b up. le_first a.0.now b.0.now (option_cmp nat_cmp b.1 a.1) up) found
    c.in_ok-sort.ensures.sorted))

-- none was lost
pub returns-clause-all : goal.returns-clause-all
returns-clause-all c key is =
    let found = c.sort.new.self.items in
    kept_has key found c.in_ok-kept.kept.items (c.in_ok-kept.ensures.keys ∙ (λ i. distinct None (keys_in (c.as_slice-2.ensures.value i)))) (sorted_has c.args.found.items found c.in_ok-sort.ensures.permutation key is)
