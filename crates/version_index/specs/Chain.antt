-- The last and the first item of a list that pass a test, and the tests on committed writes.
use Rattle.std.specs.Prelude.{◌≡◌, ℕ, suc, List, Bool, true, false, ◌&&◌, Option, Some, None, IsSomeAnd, All, slice_get, take, drop, nat_le, nat_lt}
use Rattle.std.specs.Ordering.{eq_by_cmp}
use Rattle.rel_base.specs.declared.value.Value.{Value}
use Rattle.rel_base.specs.Tables.{Stamped, ref_cmp, write_ref}

-- the number of the last item that passes a test: it passes, and none after it does; where there is none, no item passes
abbrev pub IsLast : {X : Type 0} → (X → Bool) → List X → Option ℕ → Type 0
IsLast test xs None = All (λ x. test x ≡ false) xs
IsLast test xs (Some number) = IsSomeAnd (slice_get xs number) (λ x. test x ≡ true) × All (λ x. test x ≡ false) (drop (suc number) xs)

-- the number of the last item that passes a test, where it is looked for from a number on: it is the last one of all, or none
-- from that number on passes
abbrev pub IsLastFrom : {X : Type 0} → (X → Bool) → ℕ → List X → Option ℕ → Type 0
IsLastFrom test start xs None = All (λ x. test x ≡ false) (drop start xs)
IsLastFrom test start xs (Some number) = IsLast test xs (Some number)

-- the number of the first item that passes a test: it passes, and none before it does; where there is none, no item passes
abbrev pub IsFirst : {X : Type 0} → (X → Bool) → List X → Option ℕ → Type 0
IsFirst test xs None = All (λ x. test x ≡ false) xs
IsFirst test xs (Some number) = IsSomeAnd (slice_get xs number) (λ x. test x ≡ true) × All (λ x. test x ≡ false) (take number xs)

-- whether a committed write is on a table and key
abbrev pub is_on : ℕ × List Value → Stamped → Bool
is_on ref stamped = eq_by_cmp ref_cmp ref (write_ref stamped.1.write)

-- whether it is on a table and key in a block up to a height
abbrev pub is_seen : ℕ × List Value → ℕ → Stamped → Bool
is_seen ref height stamped = is_on ref stamped && nat_le stamped.0 height

-- whether it is on a table and key in a block above one height and up to another
abbrev pub is_late : ℕ × List Value → ℕ → ℕ → Stamped → Bool
is_late ref after upto stamped = is_on ref stamped && (nat_lt after stamped.0 && nat_le stamped.0 upto)
