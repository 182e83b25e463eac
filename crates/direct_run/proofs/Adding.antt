-- Assignments with which a block begins, one after the other.
use Rattle.std.proofs.Common.{◌≡◌, ℕ, zero, suc, ◌+◌, ◌<◌, ◌≤◌, refl, sym, ap, subst, ◌∙◌, arith, List, [], ◌∷◌, ◌++◌, Option, length, take, drop, true, cond, Ok, Some}
use Rattle.std.specs.Prelude.{slice_get, slice_set, nat_lt}
use Rattle.std.proofs.lemmas.List.{drop_all}
use Rattle.rel_base.specs.declared.schema.TableDef.{TableDef}
use Rattle.rel_base.specs.declared.value.Value.{Value}
use Rattle.rel_base.specs.Tables.{Tables}
use Rattle.rel_base.proofs.Lists.{drop_next}
use Rattle.proc_syntax.specs.declared.fault.Fault.TheVariants as fault
use Rattle.proc_syntax.specs.declared.run.Binding.{Binding}
use Rattle.proc_syntax.specs.declared.run.Binding.TheVariants.{Held, Plain}
use Rattle.proc_syntax.specs.declared.run.Stop.TheVariants as stop
use Rattle.proc_syntax.specs.Limits.{most_steps}
use Rattle.proc_syntax.specs.Steps.{Going, Stopped, set_to, then_do}
use Rattle.proc_syntax.specs.Values.{found}
use Rattle.proc_code.specs.declared.tree.Action.{Action}
use Rattle.proc_code.specs.Coded.{Progress, Slots, State, do_action, do_all, in_slot, put}
use Rattle.proc_code.specs.Weighed.{applied}
use Rattle.direct_run.specs.Sums.{BeginsWith, IsSum, value_of}
use Rattle.direct_run.specs.declared.sums.Sum.{Sum}

-- ---- lists

abbrev rest_of : {X : Type 0} → List X → List X
rest_of [] = []
rest_of (x ∷ xs) = xs

drop_rest : {X : Type 0} (n : ℕ) (xs : List X) → drop (suc n) xs ≡ rest_of (drop n xs)
drop_rest zero [] = refl
drop_rest zero (x ∷ xs) = refl
drop_rest (suc n) [] = refl
drop_rest (suc n) (x ∷ xs) = drop_rest n xs

has_more : {X : Type 0} (n : ℕ) (xs : List X) (x : X) (rest : List X) → drop n xs ≡ x ∷ rest → n < length xs
has_more zero [] x rest is = cc
has_more zero (y ∷ ys) x rest is = omega (arith)
has_more (suc n) [] x rest is = cc
has_more (suc n) (y ∷ ys) x rest is = omega (arith, has_more n ys x rest is)

drop_first : {X : Type 0} (n : ℕ) (xs : List X) (x : X) → slice_get xs n ≡ Some x → drop n xs ≡ x ∷ drop (suc n) xs
drop_first n xs x here = drop_next xs n x here

-- another variable stands for what it stood for
pub other_slot : (slots : Slots) (to slot : ℕ) (binding : Option Binding) → (to ≡ slot → ⊥) → in_slot (slice_set slots to binding) slot ≡ in_slot slots slot
other_slot [] to slot binding apart = refl
other_slot (own ∷ slots) zero zero binding apart = absurd (apart refl)
other_slot (own ∷ slots) zero (suc slot) binding apart = refl
other_slot (own ∷ slots) (suc to) zero binding apart = refl
other_slot (own ∷ slots) (suc to) (suc slot) binding apart = other_slot slots to slot binding (λ same. apart (ap suc same))

module _ (columns : List (List (Option ℕ))) (slot table : ℕ) where
  -- a longer block begins with the same
  pub begins_longer : (n : ℕ) (block : List Action) (sums : List Sum) → BeginsWith columns slot table (take n block) sums → BeginsWith columns slot table block sums
  begins_longer n block [] begins = tt
  begins_longer zero block (sum ∷ sums) begins = absurd begins
  begins_longer (suc n) [] (sum ∷ sums) begins = absurd begins
  begins_longer (suc n) (action ∷ block) (sum ∷ sums) begins = (begins.0, begins_longer n block sums begins.1)

  -- one more statement is one more assignment
  pub begins_more : (n : ℕ) (block : List Action) (sums : List Sum) (action : Action) (sum : Sum) → n ≡ length sums → BeginsWith columns slot table (take n block) sums
      → slice_get block n ≡ Some action → IsSum columns slot table action sum → BeginsWith columns slot table (take (suc n) block) (sums ++ sum ∷ [])
  begins_more zero [] sums action sum at begins here is = cc
  begins_more zero (first ∷ block) [] action sum at begins here is = (subst (λ a. IsSum columns slot table a sum) (sym (same first action here)) is, tt)
    where
      same : (x y : Action) → Some x ≡ Some y → x ≡ y
      same x y h = cc
  begins_more zero (first ∷ block) (s ∷ sums) action sum at begins here is = cc
  begins_more (suc n) block [] action sum at begins here is = cc
  begins_more (suc n) [] (s ∷ sums) action sum at begins here is = absurd begins
  begins_more (suc n) (first ∷ block) (s ∷ sums) action sum at begins here is = (begins.0, begins_more n block sums action sum (cc) begins.1 here is)

  -- ---- one assignment

  module _ (block : List Action) (sums : List Sum) (done : ℕ) (sum : Sum) (here : slice_get sums done ≡ Some sum) (begins : BeginsWith columns slot table (drop done block) (drop done sums)) where
    both : BeginsWith columns slot table (drop done block) (sum ∷ drop (suc done) sums)
    both = subst (BeginsWith columns slot table (drop done block)) (drop_first done sums sum here) begins

    -- there is a statement for it
    pub one_more : done < length block
    one_more = go (drop done block) refl both
      where
        go : (left : List Action) → drop done block ≡ left → BeginsWith columns slot table left (sum ∷ drop (suc done) sums) → done < length block
        go [] is none = absurd none
        go (action ∷ rest) is some = has_more done block action rest is

    -- the block after it begins with those after it
    pub begins_after : BeginsWith columns slot table (drop (suc done) block) (drop (suc done) sums)
    begins_after = subst (λ left. BeginsWith columns slot table left (drop (suc done) sums)) (sym (drop_rest done block)) (go (drop done block) both)
      where
        go : (left : List Action) → BeginsWith columns slot table left (sum ∷ drop (suc done) sums) → BeginsWith columns slot table (rest_of left) (drop (suc done) sums)
        go [] none = absurd none
        go (action ∷ rest) some = some.1

    -- it goes to another variable
    pub to_other : sum.slot ≡ slot → ⊥
    to_other = go (drop done block) both
      where
        go : (left : List Action) → BeginsWith columns slot table left (sum ∷ drop (suc done) sums) → sum.slot ≡ slot → ⊥
        go [] none = absurd none
        go (action ∷ rest) some = some.0.other

    -- what is left of the block does the assignment, and then the rest
    pub does_one : (declared : List TableDef) (tables : Tables) (st : State) (row : List Value) (v : Value) → in_slot st.environment.slots slot ≡ Some (Held table row) → nat_lt st.steps most_steps ≡ true
        → applied sum.op (found (value_of st.environment.slots row sum.left)) (found (value_of st.environment.slots row sum.right)) ≡ Ok v
        → do_all declared columns tables (drop (suc done) block) (put sum.slot (Plain v) (record st { steps = st.steps + 1 })) ≡ do_all declared columns tables (drop done block) st
    does_one declared tables st row v held low gives =
        ap (λ left. do_all declared columns tables left (put sum.slot (Plain v) counted)) (drop_rest done block) ∙ go (drop done block) both
      where
        counted : State
        counted = record st { steps = st.steps + 1 }

        go : (left : List Action) → BeginsWith columns slot table left (sum ∷ drop (suc done) sums) → do_all declared columns tables (rest_of left) (put sum.slot (Plain v) counted) ≡ do_all declared columns tables left st
        go [] none = absurd none
        go (action ∷ rest) some =
            let all = do_all declared columns tables in
            sym (
            ap (λ b. then_do (cond b (do_action declared columns tables action counted) (Stopped st (stop.Fault fault.Steps))) (all rest)) low
            ∙ ap (λ o. then_do o (all rest)) (some.0.does declared tables counted row held)
            ∙ ap (λ w. then_do (set_to w (λ v. put sum.slot (Plain v)) counted) (all rest)) gives
            )

-- ---- a row's turn

-- the variable of the loop holds the row
pub held_there : (slots : Slots) (slot : ℕ) (binding : Binding) → slot < length (slice_set slots slot (Some binding)) → in_slot (slice_set slots slot (Some binding)) slot ≡ Some binding
held_there [] slot binding low = absurd (omega (arith, low))
held_there (own ∷ slots) zero binding low = refl
held_there (own ∷ slots) (suc slot) binding low = held_there slots slot binding (omega (arith, low))

-- where nothing is left, the block has come to its end
pub row_done : (declared : List TableDef) (columns : List (List (Option ℕ))) (tables : Tables) (block : List Action) (done : ℕ) (st reached : State) → length block ≤ done
    → do_all declared columns tables (drop done block) reached ≡ do_all declared columns tables block st → do_all declared columns tables block st ≡ Going reached
row_done declared columns tables block done st reached low same = sym same ∙ ap (λ left. do_all declared columns tables left reached) (drop_all done block low)
