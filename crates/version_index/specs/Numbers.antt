-- The numbers that pass a test.
use Rattle.std.specs.Prelude.{◌≡◌, ℕ, zero, suc, List, [], ◌∷◌, ◌++◌, Bool, false, cond, Option, Some, None, nat_le, slice_get}

-- the numbers below another that pass a test, rising
abbrev pub passing : (ℕ → Bool) → ℕ → List ℕ
passing test zero = []
passing test (suc number) = passing test number ++ cond (test number) (number ∷ []) []

-- some numbers are those below another that pass some test
abbrev pub ArePassing : ℕ → List ℕ → Type 0
ArePassing end numbers = (test : ℕ → Bool) × (numbers ≡ passing test end)

-- the last of some numbers
abbrev pub last_in : List ℕ → Option ℕ
last_in [] = None
last_in (number ∷ []) = Some number
last_in (number ∷ other ∷ rest) = last_in (other ∷ rest)

-- whether an item that may be there passes a test
abbrev pub passes : {X : Type 0} → (X → Bool) → Option X → Bool
passes test None = false
passes test (Some x) = test x

-- whether the item of a number passes a test
abbrev pub passes_at : {X : Type 0} → (X → Bool) → List X → ℕ → Bool
passes_at test xs number = passes test (slice_get xs number)

-- the lesser of two numbers
abbrev pub lesser : ℕ → ℕ → ℕ
lesser a b = cond (nat_le a b) a b

-- the lesser of a number and one that may be there
abbrev pub least_with : ℕ → Option ℕ → ℕ
least_with number None = number
least_with number (Some other) = lesser number other
