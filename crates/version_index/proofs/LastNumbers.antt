-- The last numbers of lists, kept beside them.
use Rattle.std.proofs.Common.{◌≡◌, ◌∙◌, ℕ, List, [], ◌∷◌, ◌++◌, Option, Some, None, ap, length, refl, slice_get, slice_set, subst, sym}
use Rattle.std.specs.Option.{IfSome, option_map}
use Rattle.std.proofs.lemmas.List.{length-map, map-append, map-set}
use Rattle.std.proofs.lemmas.Option.{slice_get-map}
use Rattle.row_sets.proofs.Histories.{unwrapped}
use Rattle.version_index.specs.Chains.{AreLasts, list_or_none, numbers_at, with_number}
use Rattle.version_index.specs.Numbers.{last_in}
use Rattle.version_index.proofs.Passing.{last_end}

-- there are as many as lists
pub as_many : (lasts : List ℕ) (lists : List (List ℕ)) → AreLasts lasts lists → length lasts ≡ length lists
as_many lasts lists are = sym (length-map lasts (λ number. Some number)) ∙ ap length are ∙ length-map lists last_in

-- of one list more, which has one number
pub lasts_more : (lasts : List ℕ) (lists : List (List ℕ)) (number : ℕ) → AreLasts lasts lists → AreLasts (lasts ++ number ∷ []) (lists ++ (number ∷ []) ∷ [])
lasts_more lasts lists number are =
    map-append (λ n. Some n) lasts (number ∷ []) ∙ ap (λ found. found ++ Some number ∷ []) are ∙ sym (map-append last_in lists ((number ∷ []) ∷ []))

-- where a list has one number more
pub lasts_next : (lasts : List ℕ) (lists : List (List ℕ)) (slot number : ℕ) (numbers : List ℕ) → AreLasts lasts lists → AreLasts (slice_set lasts slot number) (slice_set lists slot (numbers ++ number ∷ []))
lasts_next lasts lists slot number numbers are =
    map-set (λ n. Some n) lasts slot number ∙ (λ i. slice_set (are i) slot (sym (last_end numbers number) i)) ∙ sym (map-set last_in lists slot (numbers ++ number ∷ []))

-- of the lists after one more write, on a key without a slot or with one
pub lasts_first : (lasts : List ℕ) (lists now : List (List ℕ)) (number : ℕ) (found : Option ℕ) → found ≡ None → now ≡ with_number number found lists → AreLasts lasts lists → AreLasts (lasts ++ number ∷ []) now
lasts_first lasts lists now number found none is are =
    subst (AreLasts (lasts ++ number ∷ [])) (sym (is ∙ ap (λ slot. with_number number slot lists) none)) (lasts_more lasts lists number are)

pub lasts_follow : (lasts : List ℕ) (lists now : List (List ℕ)) (slot number : ℕ) (found : Option ℕ) → found ≡ Some slot → now ≡ with_number number found lists → AreLasts lasts lists → AreLasts (slice_set lasts slot number) now
lasts_follow lasts lists now slot number found some is are =
    subst (AreLasts (slice_set lasts slot number)) (sym (is ∙ ap (λ slot. with_number number slot lists) some)) (lasts_next lasts lists slot number (numbers_at lists (Some slot)) are)

-- that of a list is the last of its numbers
pub last_told : (lasts : List ℕ) (lists : List (List ℕ)) (slot : ℕ) → AreLasts lasts lists → slice_get lasts slot ≡ last_in (numbers_at lists (Some slot))
last_told lasts lists slot are = by (slice_get lasts slot) (slice_get lists slot) (sym (slice_get-map (λ n. Some n) lasts slot) ∙ ap (λ found. slice_get found slot) are ∙ slice_get-map last_in lists slot)
  where
    by : (one : Option ℕ) (list : Option (List ℕ)) → option_map (λ n. Some n) one ≡ option_map last_in list → one ≡ last_in (list_or_none list)
    by None None is = refl
    by None (Some numbers) is = cc
    by (Some number) None is = cc
    by (Some number) (Some numbers) is = unwrapped _ _ is

-- where there is a last number, it stands after the others
pub ends_with : (numbers : List ℕ) (number : ℕ) → last_in numbers ≡ Some number → (rest : List ℕ) × (numbers ≡ rest ++ number ∷ [])
ends_with [] number is = cc
ends_with (n ∷ []) number is = ([], ap (λ m. m ∷ []) (unwrapped n number is))
ends_with (n ∷ other ∷ more) number is = let rest = ends_with (other ∷ more) number is in (n ∷ rest.0, ap (λ ms. n ∷ ms) rest.1)

-- and where there is none, there is no number
pub has_none : (numbers : List ℕ) → last_in numbers ≡ None → numbers ≡ []
has_none [] is = refl
has_none (n ∷ []) is = cc
has_none (n ∷ other ∷ more) is = cc_none (has_none (other ∷ more) is)
  where
    cc_none : other ∷ more ≡ [] → n ∷ other ∷ more ≡ []
    cc_none same = cc

-- what holds of each number that stands after others holds of the last one, where there is one
pub told_last : (P : Option ℕ → Type 0) (numbers : List ℕ) (found : Option ℕ) → found ≡ last_in numbers → ((number : ℕ) (before : List ℕ) → numbers ≡ before ++ number ∷ [] → P (Some number)) → IfSome found (λ number. P (Some number))
told_last P numbers None is each = tt
told_last P numbers (Some number) is each = let before = ends_with numbers number (sym is) in each number before.0 before.1
