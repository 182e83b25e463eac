-- The first item that passes a test, of a list that stands in an order.
use Rattle.std.proofs.Common.{All, Bool, Contains, List, MatchOption, None, Option, Some, [], arith, cond, false, inl, inr, refl, suc, true, zero, ◌≡◌, ◌∷◌, ◌⊎◌}
use Rattle.rel_base.proofs.Bits.{no_both}
use Rattle.std.proofs.lemmas.List.Elements.{All-cons, All-nil, All-weaker}
use Rattle.std.specs.List.{AllPairs, find}
use Rattle.std.specs.Prelude.{map}

module _ {M : Type 0} where
  pub pairs_head : (R : M → M → Type 0) (x : M) (xs : List M) → AllPairs R (x ∷ xs) → All (R x) xs
  pairs_head R x xs pairs k d within = pairs 0 (suc k) d (omega arith) (omega (arith, within))

  pub pairs_tail : (R : M → M → Type 0) (x : M) (xs : List M) → AllPairs R (x ∷ xs) → AllPairs R xs
  pairs_tail R x xs pairs i j d before within = pairs (suc i) (suc j) d (omega (arith, before)) (omega (arith, within))

  pub head_or_tail : (x y : M) (xs : List M) → Contains (x ∷ xs) y → (x ≡ y) ⊎ Contains xs y
  head_or_tail x y xs (zero, within, is) = inl is
  head_or_tail x y xs (suc k, within, is) = inr (k, omega (arith, within), is)

  head_in : (x : M) (xs : List M) → Contains (x ∷ xs) x
  head_in x xs = (0, omega arith, refl)

  tail_in : (x y : M) (xs : List M) → Contains xs y → Contains (x ∷ xs) y
  tail_in x y xs inside = (suc inside.0, omega (arith, inside.1), inside.2)

  -- what is made of an item is in what is made of the list
  pub into_map : {X : Type 0} (f : M → X) (xs : List M) (x : M) → Contains xs x → Contains (map f xs) (f x)
  into_map f [] x (k, within, is) = absurd (omega (arith, within))
  into_map f (y ∷ xs) x (zero, within, is) = (0, omega arith, λ i. f (is i))
  into_map f (y ∷ xs) x (suc k, within, is) = let rest = into_map f xs x (k, omega (arith, within), is) in (suc rest.0, omega (arith, rest.1), rest.2)

  -- and what is in that, was made of an item
  pub from_map : {X : Type 0} (f : M → X) (xs : List M) (made : X) → Contains (map f xs) made → (x : M) × Contains xs x × (f x ≡ made)
  from_map f [] made (k, within, is) = absurd (omega (arith, within))
  from_map f (x ∷ xs) made (zero, within, is) = (x, head_in x xs, is)
  from_map f (x ∷ xs) made (suc k, within, is) = let rest = from_map f xs made (k, omega (arith, within), is) in (rest.0, tail_in x rest.0 xs rest.1, rest.2)

  -- an order in which a list stands, and the same order with what is alike
  module _ (Before UpTo : M → M → Type 0) (weaker : (x y : M) → Before x y → UpTo x y) (alike : (x : M) → UpTo x x) (test : M → Bool) where
    -- an item of the list passes, and it stands up to each that passes; or none passes
    abbrev pub IsFirst : List M → Option M → Type 0
    IsFirst xs found = MatchOption found (All (λ x. test x ≡ false) xs) (λ x. Contains xs x × (test x ≡ true) × All (λ y. test y ≡ true → UpTo x y) xs)

    later : (x : M) (xs : List M) (found : Option M) → test x ≡ false → IsFirst xs found → IsFirst (x ∷ xs) found
    later x xs None fails none = All-cons (λ y. test y ≡ false) x xs fails none
    later x xs (Some y) fails first =
        (tail_in x y xs first.0, first.1, All-cons (λ z. test z ≡ true → UpTo y z) x xs (λ passes. absurd (no_both (test x) passes fails)) first.2)

    pub find_first : (xs : List M) → AllPairs Before xs → IsFirst xs (find test xs)
    find_first [] pairs = All-nil (λ x. test x ≡ false)
    find_first (x ∷ xs) pairs =
        elim (test x) as (λ b. test x ≡ b → IsFirst (x ∷ xs) (cond b (Some x) (find test xs))) [
          | true ↦ λ passes. (
            head_in x xs,
            passes,
            All-cons (λ y. test y ≡ true → UpTo x y) x xs (λ _. alike x) (All-weaker (Before x) (λ y. test y ≡ true → UpTo x y) (λ y before _. weaker x y before) xs (pairs_head Before x xs pairs)),
          )
          | false ↦ λ fails. later x xs (find test xs) fails (find_first xs (pairs_tail Before x xs pairs))
        ] refl
