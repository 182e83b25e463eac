-- Items of a list that pass a test, one by one.
use Rattle.std.proofs.Common.{◌≡◌, ◌∙◌, ℕ, suc, zero, ◌<◌, ◌≤◌, List, [], ◌∷◌, Bool, true, false, Option, Some, None, refl, ap, arith, All, drop, slice_get, take, length, ◌⊎◌, inl, inr}
use Rattle.std.specs.Option.{IsSomeAnd}
use Rattle.std.proofs.lemmas.List.Elements.{All-cons, All-head, All-nil, All-tail}
use Rattle.version_index.specs.Chain.{IsFirst, IsLast}
use Rattle.version_index.specs.Hits.{IsFirstFrom}
use Rattle.version_index.specs.Numbers.{passes_at}

-- a number is below another or not
pub below_or : (a b : ℕ) → (a < b) ⊎ (b ≤ a)
below_or zero zero = inr (omega arith)
below_or zero (suc b) = inl (omega arith)
below_or (suc a) zero = inr (omega arith)
below_or (suc a) (suc b) = go (below_or a b)
  where
    go : (a < b) ⊎ (b ≤ a) → (suc a < suc b) ⊎ (suc b ≤ suc a)
    go (inl below) = inl (omega (arith, below))
    go (inr up) = inr (omega (arith, up))

-- what is reported of an item that may be there
pub some_weaker : {X : Type 0} (P Q : X → Type 0) (found : Option X) → ((x : X) → P x → Q x) → IsSomeAnd found P → IsSomeAnd found Q
some_weaker P Q None weaker is = is
some_weaker P Q (Some x) weaker is = weaker x is

module _ {X : Type 0} (test : X → Bool) where
  -- an item that passes is there
  pub some_at : (xs : List X) (number : ℕ) → passes_at test xs number ≡ true → IsSomeAnd (slice_get xs number) (λ x. test x ≡ true)
  some_at [] number is = cc
  some_at (x ∷ xs) zero is = is
  some_at (x ∷ xs) (suc number) is = some_at xs number is

  pub at_some : (xs : List X) (number : ℕ) → IsSomeAnd (slice_get xs number) (λ x. test x ≡ true) → passes_at test xs number ≡ true
  at_some [] number is = absurd is
  at_some (x ∷ xs) zero is = is
  at_some (x ∷ xs) (suc number) is = at_some xs number is

  pub at_below : (xs : List X) (number : ℕ) → passes_at test xs number ≡ true → number < length xs
  at_below [] number is = cc
  at_below (x ∷ xs) zero is = omega arith
  at_below (x ∷ xs) (suc number) is = let below = at_below xs number is in omega (arith, below)

  -- none passes
  pub fails_all : (xs : List X) → ((j : ℕ) → passes_at test xs j ≡ false) → All (λ x. test x ≡ false) xs
  fails_all [] none = All-nil (λ x. test x ≡ false)
  fails_all (x ∷ xs) none = All-cons (λ x. test x ≡ false) x xs (none 0) (fails_all xs (λ j. none (suc j)))

  pub all_fails : (xs : List X) → All (λ x. test x ≡ false) xs → (j : ℕ) → passes_at test xs j ≡ false
  all_fails [] none j = refl
  all_fails (x ∷ xs) none zero = All-head (λ x. test x ≡ false) x xs none
  all_fails (x ∷ xs) none (suc j) = all_fails xs (All-tail (λ x. test x ≡ false) x xs none) j

  -- none from a number on
  pub fails_drop : (start : ℕ) (xs : List X) → ((j : ℕ) → start ≤ j → passes_at test xs j ≡ false) → All (λ x. test x ≡ false) (drop start xs)
  fails_drop zero xs none = fails_all xs (λ j. none j (omega arith))
  fails_drop (suc start) [] none = All-nil (λ x. test x ≡ false)
  fails_drop (suc start) (x ∷ xs) none = fails_drop start xs (λ j up. none (suc j) (omega (arith, up)))

  pub drop_fails : (start : ℕ) (xs : List X) → All (λ x. test x ≡ false) (drop start xs) → (j : ℕ) → start ≤ j → passes_at test xs j ≡ false
  drop_fails zero xs none j up = all_fails xs none j
  drop_fails (suc start) [] none j up = refl
  drop_fails (suc start) (x ∷ xs) none zero up = absurd (omega (arith, up))
  drop_fails (suc start) (x ∷ xs) none (suc j) up = drop_fails start xs none j (omega (arith, up))

  -- none before a number
  pub fails_take : (end : ℕ) (xs : List X) → ((j : ℕ) → j < end → passes_at test xs j ≡ false) → All (λ x. test x ≡ false) (take end xs)
  fails_take zero xs none = All-nil (λ x. test x ≡ false)
  fails_take (suc end) [] none = All-nil (λ x. test x ≡ false)
  fails_take (suc end) (x ∷ xs) none = All-cons (λ x. test x ≡ false) x (take end xs) (none 0 (omega arith)) (fails_take end xs (λ j below. none (suc j) (omega (arith, below))))

  pub take_fails : (end : ℕ) (xs : List X) → All (λ x. test x ≡ false) (take end xs) → (j : ℕ) → j < end → passes_at test xs j ≡ false
  take_fails zero xs none j below = absurd (omega (arith, below))
  take_fails (suc end) [] none j below = refl
  take_fails (suc end) (x ∷ xs) none zero below = All-head (λ x. test x ≡ false) x (take end xs) none
  take_fails (suc end) (x ∷ xs) none (suc j) below = take_fails end xs (All-tail (λ x. test x ≡ false) x (take end xs) none) j (omega (arith, below))

  -- ---- the first items

  pub take_at : (end : ℕ) (xs : List X) (j : ℕ) → j < end → passes_at test (take end xs) j ≡ passes_at test xs j
  take_at zero xs j below = absurd (omega (arith, below))
  take_at (suc end) [] j below = refl
  take_at (suc end) (x ∷ xs) zero below = refl
  take_at (suc end) (x ∷ xs) (suc j) below = take_at end xs j (omega (arith, below))

  pub take_past : (end : ℕ) (xs : List X) (j : ℕ) → end ≤ j → passes_at test (take end xs) j ≡ false
  take_past zero xs j up = refl
  take_past (suc end) [] j up = refl
  take_past (suc end) (x ∷ xs) zero up = absurd (omega (arith, up))
  take_past (suc end) (x ∷ xs) (suc j) up = take_past end xs j (omega (arith, up))

  pub take_below : (end : ℕ) (xs : List X) (j : ℕ) → passes_at test (take end xs) j ≡ true → j < end
  take_below zero xs j is = cc
  take_below (suc end) [] j is = cc
  take_below (suc end) (x ∷ xs) zero is = omega arith
  take_below (suc end) (x ∷ xs) (suc j) is = let below = take_below end xs j is in omega (arith, below)

  -- ---- the last and the first

  pub last_points : (xs : List X) (number : ℕ) → passes_at test xs number ≡ true → ((j : ℕ) → number < j → passes_at test xs j ≡ false) → IsLast test xs (Some number)
  last_points xs number is none = (some_at xs number is, fails_drop (suc number) xs (λ j up. none j (omega (arith, up))))

  pub points_last : (xs : List X) (number : ℕ) → IsLast test xs (Some number) → (passes_at test xs number ≡ true) × ((j : ℕ) → number < j → passes_at test xs j ≡ false)
  points_last xs number last = (at_some xs number last.0, λ j up. drop_fails (suc number) xs last.1 j (omega (arith, up)))

  pub first_points : (xs : List X) (number : ℕ) → passes_at test xs number ≡ true → ((j : ℕ) → j < number → passes_at test xs j ≡ false) → IsFirst test xs (Some number)
  first_points xs number is none = (some_at xs number is, fails_take number xs none)

  -- the first from a number on, with none before it
  pub first_of_from : (start : ℕ) (xs : List X) (found : Option ℕ) → ((j : ℕ) → j < start → passes_at test xs j ≡ false) → IsFirstFrom test start xs found → IsFirst test xs found
  first_of_from start xs None low first = fails_all xs (λ j. either j (below_or j start))
    where
      either : (j : ℕ) → (j < start) ⊎ (start ≤ j) → passes_at test xs j ≡ false
      either j (inl below) = low j below
      either j (inr up) = first j up
  first_of_from start xs (Some number) low first = first_points xs number first.1 (λ j below. either j below (below_or j start))
    where
      either : (j : ℕ) → j < number → (j < start) ⊎ (start ≤ j) → passes_at test xs j ≡ false
      either j few (inl below) = low j below
      either j few (inr up) = first.2 j up few

  -- no item is past the end
  pub past_end : (xs : List X) (j : ℕ) → length xs ≤ j → passes_at test xs j ≡ false
  past_end [] j past = refl
  past_end (x ∷ xs) zero past = absurd (omega (arith, past))
  past_end (x ∷ xs) (suc j) past = past_end xs j (omega (arith, past))

  -- one more that does not pass
  pub none_next : (xs : List X) (start number : ℕ) → passes_at test xs number ≡ false → ((j : ℕ) → start ≤ j → j < number → passes_at test xs j ≡ false)
      → (j : ℕ) → start ≤ j → j < suc number → passes_at test xs j ≡ false
  none_next xs start number fails none j up below = either (below_or j number)
    where
      either : (j < number) ⊎ (number ≤ j) → passes_at test xs j ≡ false
      either (inl low) = none j up low
      either (inr high) = let same : j ≡ number = omega (arith, below, high) in ap (passes_at test xs) same ∙ fails

  -- none passes up to the end
  pub none_to_end : (xs : List X) (start number : ℕ) → length xs ≤ number → ((j : ℕ) → start ≤ j → j < number → passes_at test xs j ≡ false) → IsFirstFrom test start xs None
  none_to_end xs start number past none j up = either (below_or j number)
    where
      either : (j < number) ⊎ (number ≤ j) → passes_at test xs j ≡ false
      either (inl low) = none j up low
      either (inr high) = past_end xs j (omega (arith, past, high))
