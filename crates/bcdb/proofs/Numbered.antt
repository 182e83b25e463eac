-- An item that has a number from 1 stands within its list.
use Rattle.std.proofs.Common.{IfSome, List, None, Option, Some, [], arith, length, suc, zero, ◌+◌, ◌-◌, ◌≡◌, ◌≤◌, ◌∷◌, ℕ}
use Rattle.std.specs.Borrow.{Bor}
use Rattle.std.specs.Option.{option_copied}
use Rattle.std.specs.Prelude.{slice_get}

within : {A : Type 0} (items : List A) (place : ℕ) (item : A) → Some item ≡ slice_get items place → place + 1 ≤ length items
within [] place item is = absurd (cc)
within (first ∷ items) zero item is = omega arith
within (first ∷ items) (suc place) item is = let low = within items place item is in omega (arith, low)

pub within_told : {A : Type 0} (items : List A) (number : ℕ) (found : Option (Bor A)) → 1 ≤ number → option_copied found ≡ slice_get items (number - 1)
    → IfSome found (λ item. (1 ≤ number) × (number ≤ length items))
within_told items number None some is = tt
within_told items number (Some item) some is = let low = within items (number - 1) item.now is in (some, omega (arith, low, some))
