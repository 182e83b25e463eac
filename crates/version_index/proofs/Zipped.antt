-- Lists of which one item after the other is changed.
use Rattle.std.proofs.Common.{◌≡◌, ◌∙◌, ℕ, suc, zero, ◌<◌, List, [], ◌∷◌, ◌++◌, All, refl, ap, sym, arith, drop, get_or, length, slice_set, take}
use Rattle.std.specs.List.{AllZip}
use Rattle.std.proofs.lemmas.List.{append-nil, drop_all, take_all}
use Rattle.std.proofs.lemmas.List.Elements.{All-cons, All-head, All-nil, All-tail}

module _ {X : Type 0} where
  -- the items that were lent, and those that were not, of which there are none
  pub lent_whole : (count : ℕ) (xs ys : List X) → length xs ≡ count → length ys ≡ count → take count (ys ++ drop (length ys) xs) ≡ ys
  lent_whole count xs ys old new =
      ap (λ zs. take count (ys ++ zs)) (drop_all (length ys) xs (omega (arith, old, new))) ∙ ap (take count) (append-nil ys) ∙ take_all count ys (omega (arith, new))

  module _ (R : X → X → Type 0) where
    pub zip_same : ((x : X) → R x x) → (xs : List X) → AllZip R xs xs
    zip_same own [] = tt
    zip_same own (x ∷ xs) = (own x, zip_same own xs)

    -- one item that follows the one in its place
    pub zip_set : ((x y z : X) → R x y → R y z → R x z) → (xs ys : List X) (at_number : ℕ) (y d : X) → AllZip R xs ys → R (get_or ys at_number d) y → AllZip R xs (slice_set ys at_number y)
    zip_set trans [] [] number y d zipped follows = tt
    zip_set trans (x ∷ xs) [] number y d zipped follows = absurd zipped
    zip_set trans [] (z ∷ ys) number y d zipped follows = absurd zipped
    zip_set trans (x ∷ xs) (z ∷ ys) zero y d zipped follows = (trans x z y zipped.0 follows, zipped.1)
    zip_set trans (x ∷ xs) (z ∷ ys) (suc number) y d zipped follows = (zipped.0, zip_set trans xs ys number y d zipped.1 follows)

    pub zip_length : (xs ys : List X) → AllZip R xs ys → length ys ≡ length xs
    zip_length [] [] zipped = refl
    zip_length (x ∷ xs) [] zipped = absurd zipped
    zip_length [] (y ∷ ys) zipped = absurd zipped
    zip_length (x ∷ xs) (y ∷ ys) zipped = ap suc (zip_length xs ys zipped.1)

    -- the items so far, with one more that follows its own
    pub zip_next : (xs ys : List X) (number : ℕ) (y d : X) → AllZip R (take number xs) (take number ys) → drop number ys ≡ drop number xs → number < length ys → R (get_or xs number d) y
        → AllZip R (take (suc number) xs) (take (suc number) (slice_set ys number y))
    zip_next [] [] number y d zipped left below follows = absurd (omega (arith, below))
    zip_next (x ∷ xs) [] number y d zipped left below follows = absurd (omega (arith, below))
    zip_next [] (z ∷ ys) zero y d zipped left below follows = cc
    zip_next [] (z ∷ ys) (suc number) y d zipped left below follows = absurd zipped
    zip_next (x ∷ xs) (z ∷ ys) zero y d zipped left below follows = (follows, tt)
    zip_next (x ∷ xs) (z ∷ ys) (suc number) y d zipped left below follows = (zipped.0, zip_next xs ys number y d zipped.1 left (omega (arith, below)) follows)

  -- those that are left, one less
  pub left_next : (xs ys : List X) (number : ℕ) (y : X) → drop number ys ≡ drop number xs → number < length ys → drop (suc number) (slice_set ys number y) ≡ drop (suc number) xs
  left_next [] [] number y left below = absurd (omega (arith, below))
  left_next (x ∷ xs) [] number y left below = absurd (omega (arith, below))
  left_next [] (z ∷ ys) zero y left below = cc
  left_next [] (z ∷ ys) (suc number) y left below = absurd (omega (arith, ap length left, drop_length ys number (omega (arith, below))))
    where
      drop_length : (zs : List X) (count : ℕ) → count < length zs → 0 < length (drop count zs)
      drop_length [] count few = absurd (omega (arith, few))
      drop_length (w ∷ zs) zero few = omega arith
      drop_length (w ∷ zs) (suc count) few = drop_length zs count (omega (arith, few))
  left_next (x ∷ xs) (z ∷ ys) zero y left below = cc
  left_next (x ∷ xs) (z ∷ ys) (suc number) y left below = left_next xs ys number y left (omega (arith, below))

  abbrev nothing : List X
  nothing = []

  none_left : (count : ℕ) → drop count nothing ≡ nothing
  none_left zero = refl
  none_left (suc count) = refl

  -- the first of those that are left
  pub left_first : (xs ys : List X) (number : ℕ) (d : X) → drop number ys ≡ drop number xs → get_or ys number d ≡ get_or xs number d
  left_first [] [] number d left = refl
  left_first (x ∷ xs) (z ∷ ys) zero d left = cc
  left_first (x ∷ xs) (z ∷ ys) (suc number) d left = left_first xs ys number d left
  left_first [] (z ∷ ys) zero d left = cc
  left_first [] (z ∷ ys) (suc number) d left = left_first [] ys number d (left ∙ sym (none_left number))
  left_first (x ∷ xs) [] zero d left = cc
  left_first (x ∷ xs) [] (suc number) d left = left_first xs [] number d (none_left number ∙ left)

  -- what holds of the items so far and of the next one, which is set
  pub all_set_next : (P : X → Type 0) (ys : List X) (number : ℕ) (y : X) → All P (take number ys) → P y → number < length ys → All P (take (suc number) (slice_set ys number y))
  all_set_next P [] number y before here below = absurd (omega (arith, below))
  all_set_next P (z ∷ ys) zero y before here below = All-cons P y [] here (All-nil P)
  all_set_next P (z ∷ ys) (suc number) y before here below =
      All-cons P z (take (suc number) (slice_set ys number y)) (All-head P z (take number ys) before) (all_set_next P ys number y (All-tail P z (take number ys) before) here (omega (arith, below)))
