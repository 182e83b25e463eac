-- Transactions that are passed over change nothing.
use Rattle.std.proofs.Common.{ap, arith, drop, false, length, refl, suc, sym, zero, Bool, List, Some, None, [], ◌∷◌, ◌&&◌, ◌+◌, ◌<◌, ◌∙◌, ◌≡◌, ◌≤◌, ◌||◌, ℕ, slice_get}
use Rattle.std.specs.Bool.{nat_eq}
use Rattle.std.specs.List.{list_any}
use Rattle.std.proofs.lemmas.List.{at_drop_all}
use Rattle.std.proofs.lemmas.Option.{none-some, same_Some}
use Rattle.conflict_rules.specs.Marking.{NoneFound, OnlyFound}
use Rattle.node_model.specs.Decide.{clash, clash_at, first_shared}
use Rattle.node_model.specs.declared.result.Committed.{Committed}
use Rattle.rel_base.specs.declared.access.Write.{Write}
use Rattle.rel_base.proofs.Bits.{and_false}
use Rattle.rw_graph.proofs.Noted.{note_next, noted_all}
use Rattle.rw_graph.specs.declared.bits.Bits.{Bits}

module _ {R : Type 0} (idle : Committed → Type 0) (f : List Committed → R) (skip : (done : Committed) (rest : List Committed) → idle done → f (done ∷ rest) ≡ f rest) where
  passed_front : (xs : List Committed) (count : ℕ) → ((number : ℕ) (done : Committed) → number < count → slice_get xs number ≡ Some done → idle done) → f xs ≡ f (drop count xs)
  passed_front [] zero are = refl
  passed_front [] (suc count) are = refl
  passed_front (x ∷ xs) zero are = refl
  passed_front (x ∷ xs) (suc count) are =
      skip x xs (are 0 x (omega arith) refl) ∙ passed_front xs count (λ number done below at. are (suc number) done (omega (arith, below)) at)

  -- those from a number on, before another, are idle
  pub passed : (xs : List Committed) (from upto : ℕ) → from ≤ upto → ((number : ℕ) (done : Committed) → from ≤ number → number < upto → slice_get xs number ≡ Some done → idle done)
      → f (drop from xs) ≡ f (drop upto xs)
  passed xs zero upto low are = passed_front xs upto (λ number done below at. are number done (omega arith) below at)
  passed [] (suc from) zero low are = refl
  passed [] (suc from) (suc upto) low are = refl
  passed (x ∷ xs) (suc from) zero low are = absurd (omega (arith, low))
  passed (x ∷ xs) (suc from) (suc upto) low are =
      passed xs from upto (omega (arith, low)) (λ number done above below at. are (suc number) done (omega (arith, above)) (omega (arith, below)) at)

  pub passed_over : (found : Bits) (committed : List Committed) (from upto : ℕ) → OnlyFound found committed idle → from ≤ upto → NoneFound found from upto → f (drop from committed) ≡ f (drop upto committed)
  passed_over found committed from upto only low none = passed committed from upto low (λ number done above below at. only number done at (none number above below))

-- ---- what is idle

pub clash_skips : (writes : List Write) (done : Committed) (rest : List Committed) → first_shared done.writes writes ≡ None → clash (done ∷ rest) writes ≡ clash rest writes
clash_skips writes done rest none = ap (λ place. clash_at done place (clash rest writes)) none

pub test_skips : (test : Committed → Bool) (pos : ℕ) (done : Committed) (rest : List Committed) → test done ≡ false
    → list_any (λ x. nat_eq x.pos pos && test x) (done ∷ rest) ≡ list_any (λ x. nat_eq x.pos pos && test x) rest
test_skips test pos done rest none =
    ap (λ b. (nat_eq done.pos pos && b) || list_any (λ x. nat_eq x.pos pos && test x) rest) none ∙ ap (λ b. b || list_any (λ x. nat_eq x.pos pos && test x) rest) (and_false (nat_eq done.pos pos))

-- ---- what is left after some were passed over

drop_suc : (xs : List Committed) (number : ℕ) (x : Committed) → slice_get xs number ≡ Some x → drop number xs ≡ x ∷ drop (suc number) xs
drop_suc [] number x at = absurd (none-some x at)
drop_suc (first ∷ xs) zero x at = ap (λ y. y ∷ xs) (same_Some first x at)
drop_suc (first ∷ xs) (suc number) x at = drop_suc xs number x at

drop_at : (xs : List Committed) (number : ℕ) (x : Committed) → slice_get xs number ≡ Some x → drop number xs ≡ x ∷ drop (number + 1) xs
drop_at xs number x at = let next : suc number ≡ number + 1 = omega arith in drop_suc xs number x at ∙ ap (λ n. x ∷ drop n xs) next

module _ (writes : List Write) (found : Bits) (committed : List Committed) (only : OnlyFound found committed (λ done. first_shared done.writes writes ≡ None)) where
  abbrev ClashLeft : ℕ → Type 0
  ClashLeft from = clash (drop from committed) writes ≡ clash committed writes

  to_number : (from upto : ℕ) → ClashLeft from → from ≤ upto → NoneFound found from upto → ClashLeft upto
  to_number from upto left low none =
      sym (passed_over (λ done. first_shared done.writes writes ≡ None) (λ xs. clash xs writes) (clash_skips writes) found committed from upto only low none) ∙ left

  here : (from number : ℕ) (done : Committed) → ClashLeft from → from ≤ number → NoneFound found from number → slice_get committed number ≡ Some done
      → clash_at done (first_shared done.writes writes) (clash (drop (number + 1) committed) writes) ≡ clash committed writes
  here from number done left low none at = ap (λ xs. clash xs writes) (sym (drop_at committed number done at)) ∙ to_number from number left low none

  pub clash_here : (from number : ℕ) (done : Committed) (index : ℕ) → ClashLeft from → from ≤ number → NoneFound found from number → slice_get committed number ≡ Some done
      → first_shared done.writes writes ≡ Some index → Some (done.pos, index) ≡ clash committed writes
  clash_here from number done index left low none at shared =
      ap (λ place. clash_at done place (clash (drop (number + 1) committed) writes)) (sym shared) ∙ here from number done left low none at

  pub clash_later : (from number : ℕ) (done : Committed) → ClashLeft from → from ≤ number → NoneFound found from number → slice_get committed number ≡ Some done
      → first_shared done.writes writes ≡ None → ClashLeft (number + 1)
  clash_later from number done left low none at shared =
      ap (λ place. clash_at done place (clash (drop (number + 1) committed) writes)) (sym shared) ∙ here from number done left low none at

  pub clash_none : (from : ℕ) → ClashLeft from → from ≤ length committed → NoneFound found from (length committed) → None ≡ clash committed writes
  clash_none from left low none = sym (at_drop_all (λ xs. clash xs writes) committed (length committed) (omega arith)) ∙ to_number from (length committed) left low none

module _ (test : Committed → Bool) (found : Bits) (committed : List Committed) (only : OnlyFound found committed (λ done. test done ≡ false)) where
  abbrev EdgesLeft : (ℕ → Bool) → ℕ → Type 0
  EdgesLeft held from = (pos : ℕ) → (held pos || list_any (λ x. nat_eq x.pos pos && test x) (drop from committed)) ≡ list_any (λ x. nat_eq x.pos pos && test x) committed

  edges_to : (held : ℕ → Bool) (from upto : ℕ) → EdgesLeft held from → from ≤ upto → NoneFound found from upto → EdgesLeft held upto
  edges_to held from upto left low none pos =
      ap (λ b. held pos || b) (sym (passed_over (λ done. test done ≡ false) (list_any (λ x. nat_eq x.pos pos && test x)) (test_skips test pos) found committed from upto only low none)) ∙ left pos

  pub edges_next : (held held' : ℕ → Bool) (from number : ℕ) (done : Committed) → EdgesLeft held from → from ≤ number → NoneFound found from number → slice_get committed number ≡ Some done
      → ((pos : ℕ) → held' pos ≡ ((test done && nat_eq pos done.pos) || held pos)) → EdgesLeft held' (number + 1)
  edges_next held held' from number done left low none at noted =
      note_next (λ x. x.pos) test committed (drop number committed) (drop (number + 1) committed) done held held' (drop_at committed number done at) (edges_to held from number left low none) noted

  pub edges_all : (held : ℕ → Bool) (from : ℕ) → EdgesLeft held from → from ≤ length committed → NoneFound found from (length committed)
      → (pos : ℕ) → held pos ≡ list_any (λ x. nat_eq x.pos pos && test x) committed
  edges_all held from left low none = noted_all (λ x. x.pos) test committed (length committed) held (omega arith) (edges_to held from (length committed) left low none)
