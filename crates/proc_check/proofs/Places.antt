-- The places of variables, as names come into scope and go out of it.
use Rattle.std.proofs.Common.{◌≡◌, ◌∙◌, ◌+◌, ◌-◌, ◌<◌, ◌≤◌, ◌++◌, ◌∷◌, ℕ, suc, Bool, true, false, cond, List, [], length, Option, Some, None, ap, arith, refl, subst, sym, slice_get}
use Rattle.std.specs.Prelude.{is_some}
use Rattle.std.specs.BTreeMap.{BTreeMap, Updates, get}
use Rattle.std.specs.Cmp.Lexicographic.{slice_cmp}
use Rattle.std.specs.List.{position_from}
use Rattle.std.specs.Option.{option_map, option_or}
use Rattle.std.specs.Ordering.{nat_cmp}
use Rattle.std.specs.Str.{bytes_eq}
use Rattle.std.proofs.lemmas.Map.Text.{is_eq-slice_cmp}
use Rattle.std.proofs.lemmas.Slice.Eq.{bytes_eq-Decides}
use Rattle.proc_check.specs.Places.{HasPlaces, place_of_variable}
use Rattle.proc_check.specs.Scope.{look_up}
use Rattle.proc_check.specs.declared.scope.Variable.{Variable}
use Rattle.rel_base.proofs.Bytes.{bytes_same, equal_bytes}

some_is : {a b : ℕ} → ◌≡◌ {A = Option ℕ} (Some a) (Some b) → a ≡ b
some_is is = cc

-- ---- the first variable of a name

module _ (name : List ℕ) where
  abbrev is_it : Variable → Bool
  is_it variable = bytes_eq variable.name name

  abbrev IsPlace : ℕ → List Variable → ℕ → Type 0
  IsPlace i variables place = (i ≤ place) × (place < i + length variables) × (look_up variables name ≡ option_map (λ variable. variable.sort) (slice_get variables (place - i)))

  later : (i : ℕ) (first : Variable) (rest : List Variable) (place : ℕ) → is_it first ≡ false → IsPlace (i + 1) rest place → IsPlace i (first ∷ rest) place
  later i first rest place differs is =
      let next : suc (place - (i + 1)) ≡ place - i = omega (arith, is.0) in (
        omega (arith, is.0),
        omega (arith, is.1),
        ap (λ b. cond b (Some first.sort) (look_up rest name)) differs ∙ is.2 ∙ ap (λ n. option_map (λ variable. variable.sort) (slice_get (first ∷ rest) n)) next,
      )

  here : (i : ℕ) (first : Variable) (rest : List Variable) → is_it first ≡ true → IsPlace i (first ∷ rest) i
  here i first rest same =
      let none : 0 ≡ i - i = omega arith in (
        omega arith,
        omega arith,
        ap (λ b. cond b (Some first.sort) (look_up rest name)) same ∙ ap (λ n. option_map (λ variable. variable.sort) (slice_get (first ∷ rest) n)) none,
      )

  -- the variable at the place is the one that is looked up
  from_place : (i : ℕ) (variables : List Variable) (place : ℕ) → position_from is_it i variables ≡ Some place → IsPlace i variables place
  from_place i [] place is = cc
  from_place i (first ∷ rest) place is =
      elim (is_it first) as (λ b. is_it first ≡ b → cond b (Some i) (position_from is_it (i + 1) rest) ≡ Some place → IsPlace i (first ∷ rest) place) [
        | true ↦ λ same is. subst (IsPlace i (first ∷ rest)) (some_is is) (here i first rest same)
        | false ↦ λ differs is. later i first rest place differs (from_place (i + 1) rest place is)
      ] refl is

  from_none : (i : ℕ) (variables : List Variable) → position_from is_it i variables ≡ None → look_up variables name ≡ None
  from_none i [] is = refl
  from_none i (first ∷ rest) is =
      elim (is_it first) as (λ b. cond b (Some i) (position_from is_it (i + 1) rest) ≡ None → cond b (Some first.sort) (look_up rest name) ≡ None)
      [ true ↦ λ is. cc | false ↦ λ is. from_none (i + 1) rest is ] is

  -- the place where there is one variable more
  one_more : (i : ℕ) (variables : List Variable) (last : Variable)
      → position_from is_it i (variables ++ last ∷ []) ≡ option_or (position_from is_it i variables) (cond (is_it last) (Some (i + length variables)) None)
  one_more i [] last = ap (λ n. cond (is_it last) (Some n) None) (omega arith)
  one_more i (first ∷ rest) last =
      let next : i + 1 + length rest ≡ i + length (first ∷ rest) = omega arith in
      elim (is_it first)
      as (λ b. cond b (Some i) (position_from is_it (i + 1) (rest ++ last ∷ [])) ≡ option_or (cond b (Some i) (position_from is_it (i + 1) rest)) (cond (is_it last) (Some (i + length (first ∷ rest))) None))
      [ true ↦ refl | false ↦ one_more (i + 1) rest last ∙ ap (λ n. option_or (position_from is_it (i + 1) rest) (cond (is_it last) (Some n) None)) next ]

-- ---- a map of places

-- a name that a map finds is the one of the variable at the place
pub found_at : (places : BTreeMap (List ℕ) ℕ) (variables : List Variable) (name : List ℕ) (place : ℕ) → HasPlaces places variables → get (slice_cmp nat_cmp) places name ≡ Some place
    → (place < length variables) × (look_up variables name ≡ option_map (λ variable. variable.sort) (slice_get variables place))
found_at places variables name place has is =
    let at = from_place name 0 variables place (sym (has name) ∙ is) in
    let same : place - 0 ≡ place = omega arith in (omega (arith, at.1), at.2 ∙ ap (λ n. option_map (λ variable. variable.sort) (slice_get variables n)) same)

-- what the variable stands for
pub found_sort : (places : BTreeMap (List ℕ) ℕ) (variables : List Variable) (name : List ℕ) (place : ℕ) (variable : Variable) → HasPlaces places variables
    → get (slice_cmp nat_cmp) places name ≡ Some place → slice_get variables place ≡ Some variable → Some variable.sort ≡ look_up variables name
found_sort places variables name place variable has is there = sym ((found_at places variables name place has is).1 ∙ ap (option_map (λ variable. variable.sort)) there)

-- a name that a map does not find stands for nothing
pub not_found : (places : BTreeMap (List ℕ) ℕ) (variables : List Variable) (name : List ℕ) → HasPlaces places variables → get (slice_cmp nat_cmp) places name ≡ None → look_up variables name ≡ None
not_found places variables name has is = from_none name 0 variables (sym (has name) ∙ is)

no_some : (found : Option ℕ) → is_some found ≡ false → found ≡ None
no_some None is = refl
no_some (Some place) is = cc

or_none : (found : Option ℕ) → option_or found None ≡ found
or_none None = refl
or_none (Some place) = refl

known_or : (found other : Option ℕ) → is_some found ≡ true → found ≡ option_or found other
known_or None other is = cc
known_or (Some place) other is = refl

-- one more variable, whose name is new
pub noted_new : (old new : BTreeMap (List ℕ) ℕ) (before : List Variable) (variable : Variable) (place : ℕ) → is_some (get (slice_cmp nat_cmp) old variable.name) ≡ false
    → Updates (slice_cmp nat_cmp) old new variable.name (Some place) → length before ≡ place → HasPlaces old before → HasPlaces new (before ++ variable ∷ [])
noted_new old new before variable place absent updates counted has = λ name.
    updates.0 name
    ∙ ap (λ b. cond b (Some place) (get (slice_cmp nat_cmp) old name)) (is_eq-slice_cmp variable.name name)
    ∙ ap (cond (bytes_eq variable.name name) (Some place)) (has name)
    ∙ by name (bytes_eq variable.name name) refl
    ∙ sym (one_more name 0 before variable)
  where
    by : (name : List ℕ) (b : Bool) → bytes_eq variable.name name ≡ b → cond b (Some place) (place_of_variable before name) ≡ option_or (place_of_variable before name) (cond b (Some (0 + length before)) None)
    by name true same =
        let none : place_of_variable before name ≡ None = subst (λ name. place_of_variable before name ≡ None) (equal_bytes variable.name name same) (no_some (place_of_variable before variable.name) (ap is_some (sym (has variable.name)) ∙ absent)) in
        let own : place ≡ 0 + length before = omega (arith, counted) in
        ap Some own ∙ sym (ap (λ found. option_or found (Some (0 + length before))) none)
    by name false differs = sym (or_none (place_of_variable before name))

-- one more variable, of whose name there is one before it
pub noted_known : (old : BTreeMap (List ℕ) ℕ) (before : List Variable) (variable : Variable) → is_some (get (slice_cmp nat_cmp) old variable.name) ≡ true
    → HasPlaces old before → HasPlaces old (before ++ variable ∷ [])
noted_known old before variable known has = λ name. has name ∙ by name (bytes_eq variable.name name) refl ∙ sym (one_more name 0 before variable)
  where
    by : (name : List ℕ) (b : Bool) → bytes_eq variable.name name ≡ b → place_of_variable before name ≡ option_or (place_of_variable before name) (cond b (Some (0 + length before)) None)
    by name true same =
        known_or (place_of_variable before name) (Some (0 + length before)) (subst (λ name. is_some (place_of_variable before name) ≡ true) (equal_bytes variable.name name same) (ap is_some (sym (has variable.name)) ∙ known))
    by name false differs = sym (or_none (place_of_variable before name))

-- ---- the last variable goes

-- the place of its name is that of one before it, or else its own
last_place : (old : BTreeMap (List ℕ) ℕ) (before : List Variable) (last : Variable) → HasPlaces old (before ++ last ∷ [])
    → get (slice_cmp nat_cmp) old last.name ≡ option_or (place_of_variable before last.name) (Some (0 + length before))
last_place old before last has =
    has last.name ∙ one_more last.name 0 before last ∙ ap (λ b. option_or (place_of_variable before last.name) (cond b (Some (0 + length before)) None)) (bytes_same last.name)

-- one whose place is its own
pub forgot_first : (old new : BTreeMap (List ℕ) ℕ) (before : List Variable) (last : Variable) (place : ℕ) → get (slice_cmp nat_cmp) old last.name ≡ Some place
    → Updates (slice_cmp nat_cmp) old new last.name None → length before ≡ place → HasPlaces old (before ++ last ∷ []) → HasPlaces new before
forgot_first old new before last place is updates counted has = λ name.
    updates.0 name
    ∙ ap (λ b. cond b None (get (slice_cmp nat_cmp) old name)) (is_eq-slice_cmp last.name name)
    ∙ ap (cond (bytes_eq last.name name) None) (has name ∙ one_more name 0 before last)
    ∙ by name (bytes_eq last.name name) refl
  where
    none_before : (found : Option ℕ) → place_of_variable before last.name ≡ found → option_or found (Some (0 + length before)) ≡ Some place → found ≡ None
    none_before None here own = refl
    none_before (Some first) here own = let at = from_place last.name 0 before first here in let same : first ≡ place = some_is own in absurd (omega (arith, at.1, same, counted))

    by : (name : List ℕ) (b : Bool) → bytes_eq last.name name ≡ b → cond b None (option_or (place_of_variable before name) (cond b (Some (0 + length before)) None)) ≡ place_of_variable before name
    by name true same =
        subst (λ name. None ≡ place_of_variable before name) (equal_bytes last.name name same) (sym (none_before (place_of_variable before last.name) refl (sym (last_place old before last has) ∙ is)))
    by name false differs = or_none (place_of_variable before name)

-- one of whose name there is one before it
pub forgot_later : (old : BTreeMap (List ℕ) ℕ) (before : List Variable) (last : Variable) → (get (slice_cmp nat_cmp) old last.name ≡ Some (length before) → ⊥)
    → HasPlaces old (before ++ last ∷ []) → HasPlaces old before
forgot_later old before last other has = λ name. has name ∙ one_more name 0 before last ∙ by name (bytes_eq last.name name) refl
  where
    some_before : (found : Option ℕ) → place_of_variable before last.name ≡ found → option_or found (Some (0 + length before)) ≡ found
    some_before None here = let zero : 0 + length before ≡ length before = omega arith in absurd (other (last_place old before last has ∙ ap (λ found. option_or found (Some (0 + length before))) here ∙ ap Some zero))
    some_before (Some first) here = refl

    by : (name : List ℕ) (b : Bool) → bytes_eq last.name name ≡ b → option_or (place_of_variable before name) (cond b (Some (0 + length before)) None) ≡ place_of_variable before name
    by name true same =
        subst (λ name. option_or (place_of_variable before name) (Some (0 + length before)) ≡ place_of_variable before name) (equal_bytes last.name name same) (some_before (place_of_variable before last.name) refl)
    by name false differs = or_none (place_of_variable before name)

-- a place that is another than its own
pub not_own : {found : Option ℕ} {count : ℕ} (first place : ℕ) → count ≡ place → (first ≡ place → ⊥) → found ≡ Some first → found ≡ Some count → ⊥
not_own first place counted differs is own = differs (some_is (sym is ∙ own) ∙ counted)

-- a map that has the places of some variables has one for the last of them
pub has_last : (old : BTreeMap (List ℕ) ℕ) (before : List Variable) (last : Variable) → HasPlaces old (before ++ last ∷ []) → get (slice_cmp nat_cmp) old last.name ≡ None → ⊥
has_last old before last has is = no_none (place_of_variable before last.name) (sym (last_place old before last has) ∙ is)
  where
    no_none : (found : Option ℕ) → option_or found (Some (0 + length before)) ≡ None → ⊥
    no_none None is = cc
    no_none (Some first) is = cc
