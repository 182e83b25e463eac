-- The writes of one block at the start of what a store has from a number on.
use Rattle.std.proofs.Common.{◌≡◌, ◌∙◌, ◌∷◌, ◌==◌, ◌≤◌, List, None, Some, [], ap, cond, drop, false, length, refl, slice_get, suc, true, zero, ℕ}
use Rattle.rel_base.proofs.Lists.{drop_next}
use Rattle.rel_base.specs.Tables.{Stamped}
use Rattle.row_sets.specs.BlockWrites.{writes_from}
use Rattle.std.proofs.lemmas.List.{drop_all}

-- a write of the block is the next one
pub from_own : (number at : ℕ) (history : List Stamped) (stamped : Stamped) → slice_get history at ≡ Some stamped → (stamped.0 == number) ≡ true
    → writes_from number (drop at history) ≡ stamped.1 ∷ writes_from number (drop (suc at) history)
from_own number at history stamped there own =
    let rest = writes_from number (drop (suc at) history) in
    ap (writes_from number) (drop_next history at stamped there) ∙ ap (λ b. cond b (stamped.1 ∷ rest) []) own

-- a write of another block ends them
pub from_other : (number at : ℕ) (history : List Stamped) (stamped : Stamped) → slice_get history at ≡ Some stamped → (stamped.0 == number) ≡ false
    → writes_from number (drop at history) ≡ []
from_other number at history stamped there other =
    let rest = writes_from number (drop (suc at) history) in
    ap (writes_from number) (drop_next history at stamped there) ∙ ap (λ b. cond b (stamped.1 ∷ rest) []) other

-- nothing is left where there is no write of a number
pub drop_none : {X : Type 0} (at : ℕ) (xs : List X) → slice_get xs at ≡ None → drop at xs ≡ []
drop_none zero [] none = refl
drop_none (suc at) [] none = refl
drop_none zero (x ∷ xs) none = cc
drop_none (suc at) (x ∷ xs) none = drop_none at xs none

pub from_none : (number at : ℕ) (history : List Stamped) → slice_get history at ≡ None → writes_from number (drop at history) ≡ []
from_none number at history none = ap (writes_from number) (drop_none at history none)

-- none is left after the last
pub from_end : (number at : ℕ) (history : List Stamped) → length history ≤ at → writes_from number (drop at history) ≡ []
from_end number at history past = ap (writes_from number) (drop_all at history past)
