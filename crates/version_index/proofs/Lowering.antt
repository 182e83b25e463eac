-- A number that was found and gives way to lesser ones.
use Rattle.std.proofs.Common.{◌≡◌, ◌∙◌, ℕ, ◌<◌, ◌≤◌, ◌⊎◌, inl, inr, List, [], ◌∷◌, ◌++◌, Bool, true, false, cond, Contains, Option, Some, None, IfSome, refl, ap, sym, subst, arith}
use Rattle.std.proofs.lemmas.List.Elements.{Contains-push_cases}
use Rattle.rel_base.proofs.Bits.{no_both, not_true}
use Rattle.version_index.specs.Chain.{IsFirst}
use Rattle.version_index.specs.Hits.{IsFirstFrom, IsUpTo, Lowers}
use Rattle.version_index.specs.Numbers.{least_with, lesser, passes_at}
use Rattle.version_index.proofs.Adding.{ByOne}
use Rattle.version_index.proofs.Points.{all_fails, at_some, below_or, fails_all, first_points, take_fails}
use Rattle.version_index.proofs.Walked.{lesser_is}

module _ (hit : ℕ → Bool) where
  -- none is lower, where no hit is wanted
  pub lowers_none : (found : Option ℕ) (Wanted : ℕ → Type 0) → ((j : ℕ) → Wanted j → hit j ≡ true → ⊥) → Lowers hit found found Wanted
  lowers_none found Wanted none = record { right = λ is. is; kept = λ j up. up; reached = λ j wanted is. absurd (none j wanted is) }

  -- more were looked at than are wanted
  pub lowers_weaker : (old new : Option ℕ) (Wanted Fewer : ℕ → Type 0) → ((j : ℕ) → Fewer j → hit j ≡ true → Wanted j) → Lowers hit old new Wanted → Lowers hit old new Fewer
  lowers_weaker old new Wanted Fewer few lowers = record { right = lowers.right; kept = lowers.kept; reached = λ j wanted is. lowers.reached j (few j wanted is) is }

  -- first some and then others
  pub lowers_then : (old mid new : Option ℕ) (One Other Wanted : ℕ → Type 0) → ((j : ℕ) → Wanted j → hit j ≡ true → One j ⊎ Other j) → Lowers hit old mid One → Lowers hit mid new Other → Lowers hit old new Wanted
  lowers_then old mid new One Other Wanted either one other =
      record { right = λ is. other.right (one.right is); kept = λ j up. other.kept j (one.kept j up); reached = λ j wanted is. go j is (either j wanted is) }
    where
      go : (j : ℕ) → hit j ≡ true → One j ⊎ Other j → IsUpTo new j
      go j is (inl wanted) = other.kept j (one.reached j wanted is)
      go j is (inr wanted) = other.reached j wanted is

  -- one number
  pub lowers_one : (number : ℕ) (first : Option ℕ) → Lowers hit first (cond (hit number) (Some (least_with number first)) first) (λ j. j ≡ number)
  lowers_one number first = go (hit number) refl
    where
      own : hit number ≡ true → (found : Option ℕ) → IfSome found (λ n. hit n ≡ true) → hit (least_with number found) ≡ true
      own passes None is = passes
      own passes (Some other) is = either (lesser_is number other)
        where
          either : ((lesser number other ≡ number) × (number ≤ other)) ⊎ ((lesser number other ≡ other) × (other < number)) → hit (lesser number other) ≡ true
          either (inl first) = ap hit first.0 ∙ passes
          either (inr second) = ap hit second.0 ∙ is

      down : (found : Option ℕ) (j : ℕ) → IsUpTo found j → least_with number found ≤ j
      down None j up = absurd up
      down (Some other) j up = either (lesser_is number other)
        where
          either : ((lesser number other ≡ number) × (number ≤ other)) ⊎ ((lesser number other ≡ other) × (other < number)) → lesser number other ≤ j
          either (inl first) = let same = first.0 in let low = first.1 in omega (arith, same, low, up)
          either (inr second) = let same = second.0 in omega (arith, same, up)

      below : (found : Option ℕ) → least_with number found ≤ number
      below None = omega arith
      below (Some other) = either (lesser_is number other)
        where
          either : ((lesser number other ≡ number) × (number ≤ other)) ⊎ ((lesser number other ≡ other) × (other < number)) → lesser number other ≤ number
          either (inl first) = let same = first.0 in omega (arith, same)
          either (inr second) = let same = second.0 in let low = second.1 in omega (arith, same, low)

      go : (b : Bool) → hit number ≡ b → Lowers hit first (cond b (Some (least_with number first)) first) (λ j. j ≡ number)
      go false fails = lowers_none first (λ j. j ≡ number) (λ j same is. no_both (hit number) (ap hit (sym same) ∙ is) fails)
      go true passes = record {
        right = λ is. own passes first is;
        kept = λ j up. down first j up;
        reached = λ j same is. let low = below first in omega (arith, low, same);
      }

  -- ---- those of some items, one by one

  pub lowers_start : {E : Type 0} (Wanted : E → ℕ → Type 0) (found : Option ℕ) → Lowers hit found found (ByOne [] Wanted)
  lowers_start Wanted found = lowers_none found (ByOne [] Wanted) (λ j some is. let below = some.1.1 in absurd (omega (arith, below)))

  pub lowers_next : {E : Type 0} (Wanted : E → ℕ → Type 0) (es : List E) (e : E) (old mid new : Option ℕ) → Lowers hit old mid (ByOne es Wanted) → Lowers hit mid new (Wanted e) → Lowers hit old new (ByOne (es ++ e ∷ []) Wanted)
  lowers_next Wanted es e old mid new before here =
      lowers_then old mid new (ByOne es Wanted) (Wanted e) (ByOne (es ++ e ∷ []) Wanted) (λ j some is. either j some (Contains-push_cases es e some.0 some.1)) before here
    where
      either : (j : ℕ) → (some : ByOne (es ++ e ∷ []) Wanted j) → Contains es some.0 ⊎ (e ≡ some.0) → ByOne es Wanted j ⊎ Wanted e j
      either j some (inl before) = inl (some.0, before, some.2)
      either j some (inr same) = inr (subst (λ x. Wanted x j) (sym same) some.2)

module _ {X : Type 0} (test : X → Bool) (xs : List X) where
  -- the first from a number on is no later than any from there on
  pub lowers_from : (start : ℕ) (first : Option ℕ) → IsFirstFrom test start xs first → Lowers (passes_at test xs) None first (λ j. start ≤ j)
  lowers_from start None from = record { right = λ is. tt; kept = λ j up. absurd up; reached = λ j low is. absurd (no_both (passes_at test xs j) is (from j low)) }
  lowers_from start (Some first) from = record { right = λ is. from.1; kept = λ j up. absurd up; reached = λ j low is. go j low is (below_or j first) }
    where
      go : (j : ℕ) → start ≤ j → passes_at test xs j ≡ true → (j < first) ⊎ (first ≤ j) → first ≤ j
      go j low is (inl before) = absurd (no_both (passes_at test xs j) is (from.2 j low before))
      go j low is (inr up) = up

  -- where none that passes was left out, it is the first
  pub first_of_lowers : (found : Option ℕ) (Wanted : ℕ → Type 0) → ((j : ℕ) → passes_at test xs j ≡ true → Wanted j) → Lowers (passes_at test xs) None found Wanted → IsFirst test xs found
  first_of_lowers None Wanted all lowers = fails_all test xs (λ j. not_true (passes_at test xs j) (λ is. lowers.reached j (all j is) is))
  first_of_lowers (Some first) Wanted all lowers =
      first_points test xs first (lowers.right tt) (λ j before. not_true (passes_at test xs j) (λ is. let up = lowers.reached j (all j is) is in absurd (omega (arith, up, before))))

  -- the first of all is no later than any
  pub lowers_first : (found : Option ℕ) (Wanted : ℕ → Type 0) → IsFirst test xs found → Lowers (passes_at test xs) None found Wanted
  lowers_first None Wanted first = record { right = λ is. tt; kept = λ j up. absurd up; reached = λ j wanted is. absurd (no_both (passes_at test xs j) is (all_fails test xs first j)) }
  lowers_first (Some number) Wanted first = record { right = λ is. at_some test xs number first.0; kept = λ j up. absurd up; reached = λ j wanted is. go j is (below_or j number) }
    where
      go : (j : ℕ) → passes_at test xs j ≡ true → (j < number) ⊎ (number ≤ j) → number ≤ j
      go j is (inl before) = absurd (no_both (passes_at test xs j) is (take_fails test number xs first.1 j before))
      go j is (inr up) = up
