-- Lists of which one is set.
use Rattle.std.proofs.Common.{◌≡◌, ◌∙◌, ℕ, suc, zero, ◌<◌, List, [], ◌∷◌, ◌++◌, Some, refl, ap, sym, arith, get_or, length, slice_get, slice_set}
use Rattle.std.specs.Option.{option_map}
use Rattle.std.specs.declared.alloc.Global.{Global}
use Rattle.std.specs.declared.vec.Vec.{Vec}
use Rattle.std.proofs.Math.Seq.{map-set_same}
use Rattle.std.proofs.lemmas.List.{map-set}
use Rattle.std.proofs.lemmas.Option.{slice_get-map, slice_get_within}
use Rattle.version_index.specs.Chains.{list_or_none, lists_in, numbers_at}

module _ {X : Type 0} where
  -- the item that was set
  pub set_same : (xs : List X) (number : ℕ) (x : X) → number < length xs → slice_get (slice_set xs number x) number ≡ Some x
  set_same [] number x below = absurd (omega (arith, below))
  set_same (y ∷ ys) zero x below = refl
  set_same (y ∷ ys) (suc number) x below = set_same ys number x (omega (arith, below))

  -- another one
  pub set_other : (xs : List X) (number other : ℕ) (x : X) → (other ≡ number → ⊥) → slice_get (slice_set xs number x) other ≡ slice_get xs other
  set_other [] number other x differ = refl
  set_other (y ∷ ys) zero zero x differ = absurd (differ refl)
  set_other (y ∷ ys) zero (suc other) x differ = refl
  set_other (y ∷ ys) (suc number) zero x differ = refl
  set_other (y ∷ ys) (suc number) (suc other) x differ = set_other ys number other x (λ same. differ (ap suc same))

-- a list that is set to one with the same numbers
pub lists_same : (lists : List (Vec ℕ Global)) (slot : ℕ) (was now : Vec ℕ Global) → was ≡ get_or lists slot was → now.items ≡ was.items → lists_in (slice_set lists slot now) ≡ lists_in lists
lists_same lists slot was now there same = map-set_same (λ (v : Vec ℕ Global). v.items) lists slot now was (same ∙ ap (λ (v : Vec ℕ Global). v.items) there)

-- a list that is set to one with one number more
pub lists_more : (lists : List (Vec ℕ Global)) (slot number : ℕ) (was now : Vec ℕ Global) → slice_get lists slot ≡ Some was → now.items ≡ was.items ++ number ∷ []
    → lists_in (slice_set lists slot now) ≡ slice_set (lists_in lists) slot (numbers_at (lists_in lists) (Some slot) ++ number ∷ [])
lists_more lists slot number was now there more =
    let items : Vec ℕ Global → List ℕ = λ v. v.items in
    map-set items lists slot now
    ∙ ap (slice_set (lists_in lists) slot) (more ∙ ap (λ found. list_or_none found ++ number ∷ []) (sym (slice_get-map items lists slot ∙ ap (option_map items) there)))

module _ {X : Type 0} where
  -- the last item of a list with one more at the end
  pub get_end : (xs : List X) (x : X) → slice_get (xs ++ x ∷ []) (length xs) ≡ Some x
  get_end [] x = refl
  get_end (y ∷ ys) x = get_end ys x

  -- the items before it
  pub get_before : (xs : List X) (x : X) (number : ℕ) → number < length xs → slice_get (xs ++ x ∷ []) number ≡ slice_get xs number
  get_before [] x number below = absurd (omega (arith, below))
  get_before (y ∷ ys) x zero below = refl
  get_before (y ∷ ys) x (suc number) below = get_before ys x number (omega (arith, below))

  -- an item that is there has a number below the length
  pub below_got : (xs : List X) (number : ℕ) (x : X) → slice_get xs number ≡ Some x → number < length xs
  below_got xs number x there = slice_get_within xs number x there
