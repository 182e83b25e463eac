-- A walk along the items that pass a test, from the last one back, for the first of them that passes another.
use Rattle.std.proofs.Common.{◌≡◌, ℕ, List, Bool, true, false, Option, Some, None, refl, sym, subst, arith, All, slice_get, take, length}
use Rattle.std.specs.Option.{IsSomeAnd, option_or}
use Rattle.std.proofs.lemmas.List.{take_all}
use Rattle.version_index.specs.Chain.{IsLast, IsFirst}
use Rattle.version_index.proofs.Lasts.{get_of_part, take_of_part, none_seen, earlier_seen}

or_none : (found : Option ℕ) → option_or found None ≡ found
or_none None = refl
or_none (Some number) = refl

or_twice : (found : Option ℕ) (number : ℕ) (later : Option ℕ) → option_or (option_or found (Some number)) later ≡ option_or found (Some number)
or_twice None number later = refl
or_twice (Some other) number later = refl

module _ {X : Type 0} (on late : X → Bool) (within : (x : X) → on x ≡ false → late x ≡ false) where
  -- the first of a part of the list from its start is the first of the list
  first_of_part : (part number : ℕ) (xs : List X) → IsFirst late (take part xs) (Some number) → IsFirst late xs (Some number)
  first_of_part part number xs first =
      let P : X → Type 0 = λ x. late x ≡ true in
      (subst (λ found. IsSomeAnd found P) (get_of_part P part number xs first.0) first.0, subst (All (λ x. late x ≡ false)) (take_of_part P part number xs first.0) first.1)

  -- the last that is on passes: the first stands before it, or it is the first
  passes_here : (xs : List X) (number : ℕ) (found : Option ℕ) → IsSomeAnd (slice_get xs number) (λ x. late x ≡ true) → IsFirst late (take number xs) found → IsFirst late xs (option_or found (Some number))
  passes_here xs number None passes before = (passes, before)
  passes_here xs number (Some other) passes before = first_of_part number other xs before

  -- it does not: the first stands before it
  fails_here : (xs : List X) (number : ℕ) (found : Option ℕ) → IsLast on xs (Some number) → IsSomeAnd (slice_get xs number) (λ x. late x ≡ false) → IsFirst late (take number xs) found → IsFirst late xs found
  fails_here xs number None last fails before = earlier_seen on late within xs number None last fails before
  fails_here xs number (Some other) last fails before = first_of_part number other xs before

  -- a part of the list from its start, with the last item of it that is on; the first that is late there, or else the one that was found
  -- after it, is so in the list
  abbrev pub LateWalk : List X → Option ℕ → Option ℕ → Type 0
  LateWalk xs place first = (part : ℕ) × IsLast on (take part xs) place × ((found : Option ℕ) → IsFirst late (take part xs) found → IsFirst late xs (option_or found first))

  pub late_start : (xs : List X) (head : Option ℕ) → IsLast on xs head → LateWalk xs head None
  late_start xs head last =
      let whole : xs ≡ take (length xs) xs = sym (take_all (length xs) xs (omega arith)) in (
        length xs,
        subst (λ ys. IsLast on ys head) whole last,
        λ found is. subst (IsFirst late xs) (sym (or_none found)) (subst (λ ys. IsFirst late ys found) (sym whole) is),
      )

  pub late_pass : (xs : List X) (number : ℕ) (first earlier : Option ℕ) → LateWalk xs (Some number) first → IsSomeAnd (slice_get xs number) (λ x. late x ≡ true) → IsLast on (take number xs) earlier
      → LateWalk xs earlier (Some number)
  late_pass xs number first earlier walk passes link =
      let P : X → Type 0 = λ x. on x ≡ true in (
        number,
        link,
        λ found before. subst (IsFirst late xs) (or_twice found number first) (walk.2 (option_or found (Some number)) (passes_here (take walk.0 xs) number found
            (subst (λ found. IsSomeAnd found (λ x. late x ≡ true)) (sym (get_of_part P walk.0 number xs walk.1.0)) passes)
            (subst (λ ys. IsFirst late ys found) (sym (take_of_part P walk.0 number xs walk.1.0)) before))),
      )

  pub late_fail : (xs : List X) (number : ℕ) (first earlier : Option ℕ) → LateWalk xs (Some number) first → IsSomeAnd (slice_get xs number) (λ x. late x ≡ false) → IsLast on (take number xs) earlier
      → LateWalk xs earlier first
  late_fail xs number first earlier walk fails link =
      let P : X → Type 0 = λ x. on x ≡ true in (
        number,
        link,
        λ found before. walk.2 found (fails_here (take walk.0 xs) number found walk.1
            (subst (λ found. IsSomeAnd found (λ x. late x ≡ false)) (sym (get_of_part P walk.0 number xs walk.1.0)) fails)
            (subst (λ ys. IsFirst late ys found) (sym (take_of_part P walk.0 number xs walk.1.0)) before)),
      )

  pub late_stop : (xs : List X) (number : ℕ) (first : Option ℕ) → LateWalk xs (Some number) first → IsSomeAnd (slice_get xs number) (λ x. late x ≡ false) → All (λ x. late x ≡ false) (take number xs)
      → IsFirst late xs first
  late_stop xs number first walk fails none =
      let P : X → Type 0 = λ x. on x ≡ true in
      walk.2 None (fails_here (take walk.0 xs) number None walk.1
      (subst (λ found. IsSomeAnd found (λ x. late x ≡ false)) (sym (get_of_part P walk.0 number xs walk.1.0)) fails)
      (subst (All (λ x. late x ≡ false)) (sym (take_of_part P walk.0 number xs walk.1.0)) none))

  pub late_end : (xs : List X) (first : Option ℕ) → LateWalk xs None first → IsFirst late xs first
  late_end xs first walk = walk.2 None (none_seen on late within (take walk.0 xs) walk.1)
