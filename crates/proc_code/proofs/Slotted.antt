-- What each name stands for in slots is what it stands for by names.
use Rattle.std.proofs.Common.{◌≡◌, ℕ, zero, suc, refl, sym, ap, subst, ◌∙◌, List, [], ◌∷◌, length, map, true, false, Bool, cond, Option, Some, None, ◌||◌, arith}
use Rattle.std.specs.Prelude.{replicate, slice_set}
use Rattle.std.specs.List.{AllByRecursion, find}
use Rattle.std.specs.Option.{option_map}
use Rattle.std.specs.Str.{bytes_eq}
use Rattle.std.proofs.lemmas.List.{length-set, length-replicate}
use Rattle.rel_base.specs.declared.value.Value.{Value}
use Rattle.rel_base.proofs.Bytes.{equal_bytes}
use Rattle.proc_syntax.specs.declared.run.Binding.{Binding}
use Rattle.proc_syntax.specs.declared.run.Binding.TheVariants.{Plain}
use Rattle.proc_syntax.specs.declared.run.Variable.{Variable}
use Rattle.proc_syntax.specs.declared.tree.ColumnText.{ColumnText}
use Rattle.proc_syntax.specs.Run.{arguments}
use Rattle.proc_syntax.specs.Scope.{Environment, bind, binding_of}
use Rattle.proc_code.specs.declared.slots.Environment as coded
use Rattle.proc_code.specs.Coded.{Slots, in_slot, given}
use Rattle.proc_code.specs.Numbers.{Names, has_name, number_of_name}
use Rattle.proc_code.specs.Resolved.{param_of}
use Rattle.proc_code.proofs.Numbered.{other_bytes, at, at_place}

pub record Slotted (names : Names) (variables : List Variable) (slots : Slots) : Type 0 where
  pub size : length slots ≡ length names
  pub same : (name : List ℕ) → in_slot slots (number_of_name names name) ≡ binding_of variables name

-- what code evaluates expressions in, with the variables in slots
abbrev pub in_slots : Environment → Slots → coded.Environment
in_slots environment slots = record { slots = slots; time = environment.now }

-- ---- a slot is set

abbrev slot_at : Names → List ℕ → ℕ
slot_at names name = at (λ other. bytes_eq other name) names

first_slot : (slot set : Option Binding) (slots : Slots) (number : ℕ) (b : Bool) → in_slot (set ∷ slots) (cond b 0 (suc number)) ≡ cond b set (in_slot (slot ∷ slots) (cond b 0 (suc number)))
first_slot slot set slots number true = refl
first_slot slot set slots number false = refl

set_slot : (names : Names) (slots : Slots) (n m : List ℕ) (binding : Binding) → length slots ≡ length names → has_name names n ≡ true
    → in_slot (slice_set slots (slot_at names n) (Some binding)) (slot_at names m) ≡ cond (bytes_eq n m) (Some binding) (in_slot slots (slot_at names m))
set_slot [] slots n m binding size is = cc
set_slot (name ∷ names) [] n m binding size is = absurd (omega (arith, size))
set_slot (name ∷ names) (slot ∷ slots) n m binding size is =
    elim (bytes_eq name n)
    as (λ b. bytes_eq name n ≡ b → (b || has_name names n) ≡ true
    → in_slot (slice_set (slot ∷ slots) (cond b 0 (suc (slot_at names n))) (Some binding)) (cond (bytes_eq name m) 0 (suc (slot_at names m)))
    ≡ cond (bytes_eq n m) (Some binding) (in_slot (slot ∷ slots) (cond (bytes_eq name m) 0 (suc (slot_at names m))))) [
      | true ↦ λ same is.
          subst
          (λ b. in_slot (Some binding ∷ slots) (cond (bytes_eq name m) 0 (suc (slot_at names m))) ≡ cond b (Some binding) (in_slot (slot ∷ slots) (cond (bytes_eq name m) 0 (suc (slot_at names m)))))
          (ap (λ n. bytes_eq n m) (equal_bytes name n same))
          (first_slot slot (Some binding) slots (slot_at names m) (bytes_eq name m))
      | false ↦ λ differs is.
          elim (bytes_eq name m)
          as (λ b. bytes_eq name m ≡ b → in_slot (slot ∷ slice_set slots (slot_at names n) (Some binding)) (cond b 0 (suc (slot_at names m)))
          ≡ cond (bytes_eq n m) (Some binding) (in_slot (slot ∷ slots) (cond b 0 (suc (slot_at names m))))) [
            | true ↦ λ same. sym (ap (λ b. cond b (Some binding) slot) (other_bytes name n m differs same))
            | false ↦ λ other. set_slot names slots n m binding (omega (arith, size)) is
          ] refl
    ] refl is

-- ---- a name is bound

first_bound : (v new : Variable) (rest : Option Variable) (b : Bool)
    → option_map (λ variable. variable.binding) (cond b (Some new) rest) ≡ cond b (Some new.binding) (option_map (λ variable. variable.binding) (cond b (Some v) rest))
first_bound v new rest true = refl
first_bound v new rest false = refl

only_bound : (new : Variable) (b : Bool) → option_map (λ variable. variable.binding) (cond b (Some new) None) ≡ cond b (Some new.binding) None
only_bound new true = refl
only_bound new false = refl

bound_name : (variables : List Variable) (n m : List ℕ) (binding : Binding) → binding_of (bind variables n binding) m ≡ cond (bytes_eq n m) (Some binding) (binding_of variables m)
bound_name [] n m binding = only_bound (record { name = n; binding = binding }) (bytes_eq n m)
bound_name (v ∷ rest) n m binding =
    elim (bytes_eq v.name n)
    as (λ b. bytes_eq v.name n ≡ b → binding_of (cond b (record { name = n; binding = binding } ∷ rest) (v ∷ bind rest n binding)) m ≡ cond (bytes_eq n m) (Some binding) (binding_of (v ∷ rest) m)) [
      | true ↦ λ same.
          subst
          (λ b. binding_of (record { name = n; binding = binding } ∷ rest) m
          ≡ cond (bytes_eq n m) (Some binding) (option_map (λ variable. variable.binding) (cond b (Some v) (find (λ variable. bytes_eq variable.name m) rest))))
          (ap (λ n. bytes_eq n m) (sym (equal_bytes v.name n same)))
          (first_bound v (record { name = n; binding = binding }) (find (λ variable. bytes_eq variable.name m) rest) (bytes_eq n m))
      | false ↦ λ differs.
          elim (bytes_eq v.name m)
          as (λ b. bytes_eq v.name m ≡ b → option_map (λ variable. variable.binding) (cond b (Some v) (find (λ variable. bytes_eq variable.name m) (bind rest n binding)))
          ≡ cond (bytes_eq n m) (Some binding) (option_map (λ variable. variable.binding) (cond b (Some v) (find (λ variable. bytes_eq variable.name m) rest)))) [
            | true ↦ λ same. sym (ap (λ b. cond b (Some binding) (Some v.binding)) (other_bytes v.name n m differs same))
            | false ↦ λ other. bound_name rest n m binding
          ] refl
    ] refl

-- ---- both

pub slotted_put : (names : Names) (variables : List Variable) (slots : Slots) (name : List ℕ) (binding : Binding) → has_name names name ≡ true → Slotted names variables slots
    → Slotted names (bind variables name binding) (slice_set slots (number_of_name names name) (Some binding))
slotted_put names variables slots name binding is s = record {
  size = length-set slots (number_of_name names name) (Some binding) ∙ s.size;
  same = λ m.
      let places : in_slot (slice_set slots (number_of_name names name) (Some binding)) (number_of_name names m) ≡ cond (bytes_eq name m) (Some binding) (in_slot slots (number_of_name names m)) =
      subst (λ at_m. in_slot (slice_set slots (number_of_name names name) (Some binding)) at_m ≡ cond (bytes_eq name m) (Some binding) (in_slot slots at_m)) (at_place (λ other. bytes_eq other m) names)
      (subst (λ at_name. in_slot (slice_set slots at_name (Some binding)) (slot_at names m) ≡ cond (bytes_eq name m) (Some binding) (in_slot slots (slot_at names m))) (at_place (λ other. bytes_eq other name) names)
      (set_slot names slots name m binding s.size is)) in
      places ∙ ap (λ found. cond (bytes_eq name m) (Some binding) found) (s.same m) ∙ sym (bound_name variables name m binding);
}

-- ---- the begin of a run

empty_slot : (size number : ℕ) → in_slot (replicate size None) number ≡ None
empty_slot zero number = refl
empty_slot (suc size) zero = refl
empty_slot (suc size) (suc number) = empty_slot size number

pub slotted_none : (names : Names) → Slotted names [] (replicate (length names) None)
slotted_none names = record { size = length-replicate (length names) None; same = λ name. empty_slot (length names) (number_of_name names name) }

pub slotted_given : (names : Names) (params : List ColumnText) (values : List Value) (variables : List Variable) (slots : Slots)
    → AllByRecursion (λ name. has_name names name ≡ true) (map (λ param. param.name.name) params) → Slotted names variables slots
    → Slotted names (arguments variables params values) (given slots (map (param_of names) params) values)
slotted_given names [] values variables slots known s = s
slotted_given names (param ∷ params) [] variables slots known s = s
slotted_given names (param ∷ params) (v ∷ vs) variables slots known s =
    slotted_given names params vs _ _ known.1 (slotted_put names variables slots param.name.name (Plain v) known.0 s)
