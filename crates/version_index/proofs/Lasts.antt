-- Steps of a walk along the items that pass a test, from the last one back.
use Rattle.std.proofs.Common.{◌≡◌, ℕ, suc, zero, ◌+◌, ◌<◌, List, [], ◌∷◌, Bool, true, false, Option, Some, None, refl, ap, arith, All, slice_get, take, length}
use Rattle.std.specs.Option.{IsSomeAnd}
use Rattle.std.proofs.lemmas.List.{length-take}
use Rattle.std.proofs.lemmas.List.Elements.{All-cons, All-head, All-tail, All-weaker}
use Rattle.version_index.specs.Chain.{IsLast}

-- ---- an item of the first part of a list

module _ {X : Type 0} (P : X → Type 0) where
  -- it is the item of the list
  pub get_of_part : (part number : ℕ) (xs : List X) → IsSomeAnd (slice_get (take part xs) number) P → slice_get (take part xs) number ≡ slice_get xs number
  get_of_part zero number xs there = absurd there
  get_of_part (suc part) number [] there = refl
  get_of_part (suc part) zero (x ∷ xs) there = refl
  get_of_part (suc part) (suc number) (x ∷ xs) there = get_of_part part number xs there

  -- those before it are the same
  pub take_of_part : (part number : ℕ) (xs : List X) → IsSomeAnd (slice_get (take part xs) number) P → take number (take part xs) ≡ take number xs
  take_of_part zero number xs there = absurd there
  take_of_part (suc part) number [] there = refl
  take_of_part (suc part) zero (x ∷ xs) there = refl
  take_of_part (suc part) (suc number) (x ∷ xs) there = ap (λ ys. x ∷ ys) (take_of_part part number xs there)

-- ---- the last that is on, and the last that is seen among those that are on

module _ {X : Type 0} (on seen : X → Bool) (within : (x : X) → on x ≡ false → seen x ≡ false) where
  -- it is not seen
  abbrev Fails : X → Type 0
  Fails x = seen x ≡ false

  -- where none is on, none is seen
  pub none_seen : (xs : List X) → All (λ x. on x ≡ false) xs → All (λ x. seen x ≡ false) xs
  none_seen xs none = All-weaker (λ x. on x ≡ false) (λ x. seen x ≡ false) within xs none

  -- where the last that is on is not seen, the last that is seen stands before it
  pub earlier_seen : (xs : List X) (number : ℕ) (found : Option ℕ) → IsLast on xs (Some number) → IsSomeAnd (slice_get xs number) (λ x. seen x ≡ false) → IsLast seen (take number xs) found → IsLast seen xs found
  earlier_seen [] number found last fails before = absurd last.0
  earlier_seen (x ∷ xs) zero None last fails before = All-cons Fails x xs fails (none_seen xs last.1)
  earlier_seen (x ∷ xs) zero (Some other) last fails before = absurd before.0
  earlier_seen (x ∷ xs) (suc number) None last fails before =
      All-cons Fails x xs (All-head Fails x (take number xs) before) (earlier_seen xs number None last fails (All-tail Fails x (take number xs) before))
  earlier_seen (x ∷ xs) (suc number) (Some zero) last fails before = (before.0, earlier_seen xs number None last fails before.1)
  earlier_seen (x ∷ xs) (suc number) (Some (suc other)) last fails before = earlier_seen xs number (Some other) last fails before

-- how many items are at most left of a walk
abbrev pub count : Option ℕ → ℕ
count None = 0
count (Some number) = number + 1

-- an item that is there has a number below the length
pub below_of_get : {X : Type 0} (P : X → Type 0) (number : ℕ) (xs : List X) → IsSomeAnd (slice_get xs number) P → number < length xs
below_of_get P number [] there = absurd there
below_of_get P zero (x ∷ xs) there = omega arith
below_of_get P (suc number) (x ∷ xs) there = let below = below_of_get P number xs there in omega (arith, below)

-- the last of the items before a number leaves fewer to walk
pub fewer_left : {X : Type 0} (test : X → Bool) (number : ℕ) (xs : List X) (earlier : Option ℕ) → IsLast test (take number xs) earlier → count earlier < count (Some number)
fewer_left test number xs None last = omega arith
fewer_left test number xs (Some other) last =
    let below = below_of_get (λ x. test x ≡ true) other (take number xs) last.0 in
    let few = length-take number xs in
    omega (arith, below, few)
