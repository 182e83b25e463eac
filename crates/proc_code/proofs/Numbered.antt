-- Names that were met have numbers.
use Rattle.std.proofs.Common.{◌≡◌, ℕ, suc, ◌+◌, refl, sym, ap, subst, ◌∙◌, List, [], ◌∷◌, ◌++◌, length, true, false, Bool, cond, Option, Some, None, ◌||◌, arith}
use Rattle.std.specs.Prelude.{MatchOption, is_some, nat_lt, not}
use Rattle.std.specs.BTreeMap.{BTreeMap, IsUnchanged, Updates, get, is_at}
use Rattle.std.specs.Cmp.Lexicographic.{slice_cmp}
use Rattle.std.specs.List.{AllByRecursion, find, list_any, position_from, position_or_len}
use Rattle.std.specs.Map.{lookup}
use Rattle.std.specs.Ordering.{nat_cmp}
use Rattle.std.specs.Str.{bytes_eq}
use Rattle.std.proofs.lemmas.Bool.{ltb-false}
use Rattle.std.proofs.lemmas.Iterator.Adapters.{position_from-zero}
use Rattle.std.proofs.lemmas.List.{same_from_push}
use Rattle.std.proofs.lemmas.List.Folds.{list_any-append}
use Rattle.std.proofs.lemmas.List.Recursion.{is_position_or_len}
use Rattle.std.proofs.lemmas.List.Sums.{prefix_len-le-length}
use Rattle.std.proofs.lemmas.Map.Text.{is_eq-slice_cmp}
use Rattle.proc_code.specs.Numbers.{Names, AreNumbersOf, has_name, number_if, number_of_name, with_name, with_names}
use Rattle.rel_base.proofs.Bytes.{bytes_same, equal_bytes}
use Rattle.rel_base.proofs.Bits.{or_left, or_right}

-- ---- tests

-- what equals one of two names that differ is not the other
pub other_bytes : (a n m : List ℕ) → bytes_eq a n ≡ false → bytes_eq a m ≡ true → bytes_eq n m ≡ false
other_bytes a n m differs same =
    elim (bytes_eq n m) as (λ b. bytes_eq n m ≡ b → b ≡ false) [
      | true ↦ λ h.
          let is : a ≡ n = equal_bytes a m same ∙ sym (equal_bytes n m h) in
          let equal : bytes_eq a n ≡ true = subst (λ n. bytes_eq a n ≡ true) is (bytes_same a) in
          sym equal ∙ differs
      | false ↦ λ h. refl
    ] refl

-- ---- the first place that passes, by recursion

abbrev pub at : {X : Type 0} → (X → Bool) → List X → ℕ
at p [] = 0
at p (x ∷ xs) = cond (p x) 0 (suc (at p xs))

one_more : (b : Bool) (n : ℕ) → cond b 0 (suc n) ≡ cond b 0 (1 + n)
one_more true n = refl
one_more false n = omega arith

pub at_place : {X : Type 0} (p : X → Bool) (xs : List X) → at p xs ≡ position_or_len p xs
at_place p xs = is_position_or_len (at p) p refl (λ x xs. one_more (p x) (at p xs)) xs

-- a place that is found, and the place after all where there is none
module _ {X : Type 0} (p : X → Bool) (xs : List X) where
  by_place : (b : Bool) → nat_lt (position_or_len p xs) (length xs) ≡ b → (place : Option ℕ) → cond b (Some (position_or_len p xs)) None ≡ place
      → MatchOption place (length xs ≡ position_or_len p xs) (λ number. number ≡ position_or_len p xs)
  by_place true below None is = cc
  by_place true below (Some number) is = cc
  by_place false past None is = let under = ltb-false (position_or_len p xs) (length xs) past in let over = prefix_len-le-length (λ x. not (p x)) xs in omega (arith, under, over)
  by_place false past (Some number) is = cc

  pub place_found : (number : ℕ) → position_from p 0 xs ≡ Some number → number ≡ position_or_len p xs
  place_found number is = by_place (nat_lt (position_or_len p xs) (length xs)) refl (Some number) (position_from-zero p xs ∙ is)

  pub place_absent : position_from p 0 xs ≡ None → length xs ≡ position_or_len p xs
  place_absent is = by_place (nat_lt (position_or_len p xs) (length xs)) refl None (position_from-zero p xs ∙ is)

-- ---- names

-- a name that is there is found, as itself
pub find_name : (names : Names) (name : List ℕ) → find (λ other. bytes_eq other name) names ≡ cond (has_name names name) (Some name) None
find_name [] name = refl
find_name (first ∷ names) name =
    elim (bytes_eq first name)
    as (λ b. bytes_eq first name ≡ b → cond b (Some first) (find (λ other. bytes_eq other name) names) ≡ cond (b || has_name names name) (Some name) None)
    [ true ↦ λ same. ap Some (equal_bytes first name same) | false ↦ λ differs. find_name names name ] refl

kept_one : (names : Names) (new name : List ℕ) → has_name names name ≡ true → has_name (with_name names new) name ≡ true
kept_one names new name h =
    elim (has_name names new) as (λ b. has_name (cond b names (names ++ new ∷ [])) name ≡ true) [
      | true ↦ h
      | false ↦ list_any-append (λ other. bytes_eq other name) names (new ∷ []) ∙ or_left (has_name names name) _ h
    ]

-- a name that is there stays
pub kept_name : (names more : Names) (name : List ℕ) → has_name names name ≡ true → has_name (with_names names more) name ≡ true
kept_name names [] name h = h
kept_name names (new ∷ more) name h = kept_name (with_name names new) more name (kept_one names new name h)

new_name : (names : Names) (name : List ℕ) → has_name (with_name names name) name ≡ true
new_name names name =
    elim (has_name names name) as (λ b. has_name names name ≡ b → has_name (cond b names (names ++ name ∷ [])) name ≡ true) [
      | true ↦ λ h. h
      | false ↦ λ h. list_any-append (λ other. bytes_eq other name) names (name ∷ []) ∙ or_right (has_name names name) _ (or_left (bytes_eq name name) false (bytes_same name))
    ] refl

-- each name that was met is there
pub all_met : (names more : Names) → AllByRecursion (λ name. has_name (with_names names more) name ≡ true) more
all_met names [] = tt
all_met names (new ∷ more) = (kept_name (with_name names new) more new (new_name names new), all_met (with_name names new) more)

pub met : (names more : Names) (name : List ℕ) → has_name more name ≡ true → has_name (with_names names more) name ≡ true
met names [] name h = cc
met names (new ∷ more) name h =
    elim (bytes_eq new name) as (λ b. bytes_eq new name ≡ b → (b || has_name more name) ≡ true → has_name (with_names (with_name names new) more) name ≡ true) [
      | true ↦ λ same h. kept_name (with_name names new) more name (subst (λ name. has_name (with_name names new) name ≡ true) (equal_bytes new name same) (new_name names new))
      | false ↦ λ differs h. met (with_name names new) more name h
    ] refl h

-- names that are met one after the other
pub with_both : (names first second : Names) → with_names names (first ++ second) ≡ with_names (with_names names first) second
with_both names [] second = refl
with_both names (name ∷ first) second = with_both (with_name names name) first second

-- ---- names by a map

-- a name that has a number
pub there : (names : Names) (name : List ℕ) (number : ℕ) → number_if names name ≡ Some number → number ≡ number_of_name names name
there names name number is =
    elim (has_name names name) as (λ b. cond b (Some (number_of_name names name)) None ≡ Some number → number ≡ number_of_name names name) [ true ↦ λ is. cc | false ↦ λ is. cc ] is

all_pass_by : (names : Names) (name : List ℕ) → has_name names name ≡ false → at (λ other. bytes_eq other name) names ≡ length names
all_pass_by [] name none = refl
all_pass_by (first ∷ names) name none =
    elim (bytes_eq first name) as (λ b. (b || has_name names name) ≡ false → cond b 0 (suc (at (λ other. bytes_eq other name) names)) ≡ length (first ∷ names))
    [ true ↦ λ none. cc | false ↦ λ none. let rest = all_pass_by names name none in omega (arith, rest) ] none

pub last_number : (names : Names) (name : List ℕ) → has_name names name ≡ false → number_of_name names name ≡ length names
last_number names name none = sym (at_place (λ other. bytes_eq other name) names) ∙ all_pass_by names name none

pub not_there : (names : Names) (name : List ℕ) → number_if names name ≡ None → length names ≡ number_of_name names name
not_there names name is =
    elim (has_name names name) as (λ b. has_name names name ≡ b → cond b (Some (number_of_name names name)) None ≡ None → length names ≡ number_of_name names name)
    [ true ↦ λ there is. cc | false ↦ λ none is. sym (last_number names name none) ] refl is

-- places in a list with one item more
same_place : {X : Type 0} (p : X → Bool) (xs ys : List X) → list_any p xs ≡ true → at p (xs ++ ys) ≡ at p xs
same_place p [] ys any = cc
same_place p (x ∷ xs) ys any =
    elim (p x) as (λ b. (b || list_any p xs) ≡ true → cond b 0 (suc (at p (xs ++ ys))) ≡ cond b 0 (suc (at p xs))) [ true ↦ λ any. refl | false ↦ λ any. ap suc (same_place p xs ys any) ] any

last_place : {X : Type 0} (p : X → Bool) (xs : List X) (y : X) → list_any p xs ≡ false → p y ≡ true → at p (xs ++ y ∷ []) ≡ length xs
last_place p [] y none passes = rw passes refl
last_place p (x ∷ xs) y none passes =
    elim (p x) as (λ b. (b || list_any p xs) ≡ false → cond b 0 (suc (at p (xs ++ y ∷ []))) ≡ length (x ∷ xs))
    [ true ↦ λ none. cc | false ↦ λ none. let rest = last_place p xs y none passes in omega (arith, rest) ] none

-- one name more
module _ (names : Names) (new name : List ℕ) (none : has_name names new ≡ false) where
  abbrev is_it : List ℕ → Bool
  is_it other = bytes_eq other name

  by_cases : (h e : Bool) → has_name names name ≡ h → bytes_eq new name ≡ e
      → cond (h || (e || false)) (Some (at is_it (names ++ new ∷ []))) None ≡ cond e (Some (length names)) (cond h (Some (number_of_name names name)) None)
  by_cases true true is same = let here = subst (λ n. has_name names n ≡ true) (sym (equal_bytes new name same)) is in cc
  by_cases true false is differs = ap Some (same_place is_it names (new ∷ []) is ∙ at_place is_it names)
  by_cases false true is same = ap Some (last_place is_it names new is same)
  by_cases false false is differs = refl

  pub one_name_more : number_if (names ++ new ∷ []) name ≡ cond (bytes_eq new name) (Some (length names)) (number_if names name)
  one_name_more =
      subst (λ b. cond b (Some (number_of_name (names ++ new ∷ []) name)) None ≡ cond (bytes_eq new name) (Some (length names)) (number_if names name)) (sym (list_any-append is_it names (new ∷ [])))
      (subst (λ n. cond (has_name names name || (bytes_eq new name || false)) (Some n) None ≡ cond (bytes_eq new name) (Some (length names)) (cond (has_name names name) (Some (number_of_name names name)) None)) (at_place is_it (names ++ new ∷ []))
      (by_cases (has_name names name) (bytes_eq new name) refl refl))

-- the map stays right where a new name gets the next number
pub numbered_more : (names : Names) (new : List ℕ) (old after : BTreeMap (List ℕ) ℕ) → AreNumbersOf names old → has_name names new ≡ false → Updates (slice_cmp nat_cmp) old after new (Some (length names)) → AreNumbersOf (names ++ new ∷ []) after
numbered_more names new old after numbered none updates = λ name.
    updates.0 name
    ∙ ap (λ b. cond b (Some (length names)) (get (slice_cmp nat_cmp) old name)) (is_eq-slice_cmp new name)
    ∙ ap (λ found. cond (bytes_eq new name) (Some (length names)) found) (numbered name)
    ∙ sym (one_name_more names new name none)

-- what a map has no number for was not met
unnumbered : (names : Names) (name : List ℕ) → is_some (number_if names name) ≡ false → has_name names name ≡ false
unnumbered names name is = elim (has_name names name) as (λ b. is_some (cond b (Some (number_of_name names name)) None) ≡ false → b ≡ false) [ true ↦ λ is. cc | false ↦ λ is. refl ] is

-- a name was put after the others, and into the map under their number
pub added : (names pushed : Names) (new key item : List ℕ) (number : ℕ) (old after : BTreeMap (List ℕ) ℕ) → AreNumbersOf names old → is_some (get (slice_cmp nat_cmp) old new) ≡ false
    → key ≡ new → item ≡ new → number ≡ length names → pushed ≡ names ++ item ∷ [] → Updates (slice_cmp nat_cmp) old after key (Some number) → AreNumbersOf pushed after
added names pushed new key item number old after numbered absent key_is item_is number_is pushed_is updates =
    let none : has_name names new ≡ false = unnumbered names new (ap is_some (sym (numbered new)) ∙ absent) in
    let named : Updates (slice_cmp nat_cmp) old after new (Some number) = subst (λ k. Updates (slice_cmp nat_cmp) old after k (Some number)) key_is updates in
    let counted : Updates (slice_cmp nat_cmp) old after new (Some (length names)) = subst (λ n. Updates (slice_cmp nat_cmp) old after new (Some n)) number_is named in
    subst (λ these. AreNumbersOf these after) (sym (pushed_is ∙ ap (λ last. names ++ last ∷ []) item_is)) (numbered_more names new old after numbered none counted)

not_empty : (names : Names) (item : List ℕ) → names ++ item ∷ [] ≡ [] → ⊥
not_empty [] item e = cc
not_empty (first ∷ names) item e = cc

-- the name was taken off again, and the map did not change
pub taken_off : (names pushed left : Names) (item : List ℕ) (popped : Option (List ℕ)) (old after : BTreeMap (List ℕ) ℕ) → AreNumbersOf names old → pushed ≡ names ++ item ∷ []
    → MatchOption popped ((pushed ≡ []) × (left ≡ [])) (λ last. pushed ≡ left ++ last ∷ []) → IsUnchanged old after → AreNumbersOf left after
taken_off names pushed left item None old after numbered pushed_is popped unchanged = absurd (not_empty names item (sym pushed_is ∙ popped.0))
taken_off names pushed left item (Some last) old after numbered pushed_is popped unchanged = λ name.
    ap (lookup (is_at (slice_cmp nat_cmp name))) unchanged ∙ numbered name ∙ ap (λ these. number_if these name) (same_from_push names left item last (sym pushed_is ∙ popped)).0

-- ---- what holds of all

pub all_front : {X : Type 0} (P : X → Type 0) (xs ys : List X) → AllByRecursion P (xs ++ ys) → AllByRecursion P xs
all_front P [] ys all = tt
all_front P (x ∷ xs) ys all = (all.0, all_front P xs ys all.1)

pub all_back : {X : Type 0} (P : X → Type 0) (xs ys : List X) → AllByRecursion P (xs ++ ys) → AllByRecursion P ys
all_back P [] ys all = all
all_back P (x ∷ xs) ys all = all_back P xs ys all.1
