-- The walk over an application, from which the steps of a check are made. It stops at the first fault.
use Rattle.std.specs.Prelude.{ℕ, List, [], ◌∷◌, ◌++◌, length, Bool, true, false, nat_le, Result, Ok, Err, Option, Some, None}
use Rattle.std.specs.List.{list_any}
use Rattle.std.specs.Str.{bytes_eq}
use Rattle.proc_syntax.specs.declared.tree.Named.{Named}
use Rattle.proc_check.specs.declared.fault.Bad.{Bad}
use Rattle.proc_check.specs.declared.fault.BadKind.{BadKind}
use Rattle.proc_check.specs.declared.fault.BadKind.TheVariants.{Limit, NameTwice}

-- one step and then the next, if the first found no fault
infixr 15 ◌>>=◌
abbrev pub ◌>>=◌ : {A B : Type 0} → Result A Bad → (A → Result B Bad) → Result B Bad
(Ok found) >>= go = go found
(Err bad) >>= go = Err bad

-- the fault at a line, where there is one
abbrev pub refuse : Bool → ℕ → BadKind → Result (Unit {0}) Bad
refuse true line kind = Err (record { line = line; kind = kind })
refuse false line kind = Ok tt

-- each item in its order, with those that stand before it
abbrev pub in_order : {A : Type 0} → (List A → A → Result (Unit {0}) Bad) → List A → List A → Result (Unit {0}) Bad
in_order check before [] = Ok tt
in_order check before (item ∷ items) = check before item >>= λ _. in_order check (before ++ item ∷ []) items

-- one of the items has the name
abbrev pub has_name : {A : Type 0} → (A → Named) → List A → List ℕ → Bool
has_name named items name = list_any (λ item. bytes_eq (named item).name name) items

-- a declaration: not one more than there may be, and of another name than those before it
abbrev pub fresh : {A : Type 0} → (A → Named) → ℕ → List A → A → Result (Unit {0}) Bad
fresh named most before item =
    refuse (nat_le most (length before)) (named item).line Limit >>= λ _.
    refuse (has_name named before (named item).name) (named item).line NameTwice

-- what was found, or else the fault at a line
abbrev pub found : {A : Type 0} → Option A → ℕ → BadKind → Result A Bad
found (Some item) line kind = Ok item
found None line kind = Err (record { line = line; kind = kind })
