-- Names that come into scope, and names that get a new value.
use Rattle.std.proofs.Common.{◌≡◌, ℕ, refl, ap, subst, ◌∙◌, List, [], ◌∷◌, ◌++◌, true, false, cond, Some, None, IfSome}
use Rattle.std.specs.List.{find}
use Rattle.std.specs.Option.{option_map}
use Rattle.std.specs.Str.{bytes_eq}
use Rattle.rel_base.specs.declared.schema.TableDef.{TableDef}
use Rattle.rel_base.specs.declared.value.Kind.{Kind}
use Rattle.rel_base.specs.declared.value.Value.{Value}
use Rattle.rel_base.proofs.Bytes.{bytes_same, equal_bytes}
use Rattle.proc_syntax.specs.declared.run.Binding.{Binding}
use Rattle.proc_syntax.specs.declared.run.Binding.TheVariants.{Plain}
use Rattle.proc_syntax.specs.declared.run.Variable.{Variable as Bound}
use Rattle.proc_syntax.specs.Scope.{bind, binding_of}
use Rattle.proc_syntax.specs.Values.{has_kind}
use Rattle.proc_check.specs.declared.scope.Sort.{Sort}
use Rattle.proc_check.specs.declared.scope.Sort.TheVariants as sort
use Rattle.proc_check.specs.declared.scope.Variable.{Variable}
use Rattle.proc_check.specs.Scope.{look_up}
use Rattle.proc_check.proofs.Names.{StandsFor, Agrees}

bound_same : (variables : List Bound) (name : List ℕ) (binding : Binding) → binding_of (bind variables name binding) name ≡ Some binding
bound_same [] name binding = rw (bytes_same name) refl
bound_same (variable ∷ rest) name binding =
    elim (bytes_eq variable.name name)
    as (λ b. bytes_eq variable.name name ≡ b → binding_of (cond b (record { name = name; binding = binding } ∷ rest) (variable ∷ bind rest name binding)) name ≡ Some binding)
    [ true ↦ λ same. rw (bytes_same name) refl | false ↦ λ differs. rw differs (bound_same rest name binding) ] refl

bound_other : (variables : List Bound) (name other : List ℕ) (binding : Binding) → bytes_eq name other ≡ false → binding_of (bind variables name binding) other ≡ binding_of variables other
bound_other [] name other binding differs = rw differs refl
bound_other (variable ∷ rest) name other binding differs =
    elim (bytes_eq variable.name name)
    as (λ b. bytes_eq variable.name name ≡ b → binding_of (cond b (record { name = name; binding = binding } ∷ rest) (variable ∷ bind rest name binding)) other ≡ binding_of (variable ∷ rest) other) [
      | true ↦ λ same.
          let e : bytes_eq variable.name other ≡ false = ap (λ n. bytes_eq n other) (equal_bytes variable.name name same) ∙ differs in
          rw (differs, e) refl
      | false ↦ λ not_same.
          elim (bytes_eq variable.name other)
          as (λ b. option_map (λ v. v.binding) (cond b (Some variable) (find (λ v. bytes_eq v.name other) (bind rest name binding))) ≡ option_map (λ v. v.binding) (cond b (Some variable) (find (λ v. bytes_eq v.name other) rest)))
          [ true ↦ refl | false ↦ bound_other rest name other binding differs ]
    ] refl

look_new : (scope : List Variable) (variable : Variable) (name : List ℕ) → look_up scope name ≡ None → look_up (scope ++ variable ∷ []) name ≡ cond (bytes_eq variable.name name) (Some variable.sort) None
look_new [] variable name none = refl
look_new (first ∷ rest) variable name none =
    elim (bytes_eq first.name name)
    as (λ b. cond b (Some first.sort) (look_up rest name) ≡ None → cond b (Some first.sort) (look_up (rest ++ variable ∷ []) name) ≡ cond (bytes_eq variable.name name) (Some variable.sort) None)
    [ true ↦ λ is. cc | false ↦ λ is. look_new rest variable name is ] none

look_old : (scope : List Variable) (variable : Variable) (name : List ℕ) → bytes_eq variable.name name ≡ false → look_up (scope ++ variable ∷ []) name ≡ look_up scope name
look_old [] variable name differs = rw differs refl
look_old (first ∷ rest) variable name differs = ap (λ o. cond (bytes_eq first.name name) (Some first.sort) o) (look_old rest variable name differs)

look_less : (scope more : List Variable) (name : List ℕ) (P : Sort → Type 0) → IfSome (look_up (scope ++ more) name) P → IfSome (look_up scope name) P
look_less [] more name P h = tt
look_less (first ∷ rest) more name P h =
    elim (bytes_eq first.name name)
    as (λ b. IfSome (cond b (Some first.sort) (look_up (rest ++ more) name)) P → IfSome (cond b (Some first.sort) (look_up rest name)) P)
    [ true ↦ λ h. h | false ↦ λ h. look_less rest more name P h ] h

module _ (declared : List TableDef) where
  -- names that leave the scope take nothing away
  pub agrees_less : (scope more : List Variable) (variables : List Bound) → Agrees declared (scope ++ more) variables → Agrees declared scope variables
  agrees_less scope more variables agrees = record { stands = λ name. look_less scope more name (λ s. StandsFor declared s (binding_of variables name)) (agrees.stands name) }

  -- a name comes into scope
  pub agrees_more : (scope : List Variable) (variables : List Bound) (variable : Variable) (binding : Binding) → Agrees declared scope variables → look_up scope variable.name ≡ None
      → StandsFor declared variable.sort (Some binding) → Agrees declared (scope ++ variable ∷ []) (bind variables variable.name binding)
  agrees_more scope variables variable binding agrees none stands = record {
    stands = λ name.
        elim (bytes_eq variable.name name)
        as (λ b. bytes_eq variable.name name ≡ b → IfSome (look_up (scope ++ variable ∷ []) name) (λ s. StandsFor declared s (binding_of (bind variables variable.name binding) name))) [
          | true ↦ λ same.
              let is : variable.name ≡ name = equal_bytes variable.name name same in
              let found : look_up (scope ++ variable ∷ []) variable.name ≡ Some variable.sort = look_new scope variable variable.name none ∙ ap (λ b. cond b (Some variable.sort) None) (bytes_same variable.name) in
              subst (λ n. IfSome (look_up (scope ++ variable ∷ []) n) (λ s. StandsFor declared s (binding_of (bind variables variable.name binding) n))) is
              (rw (found, bound_same variables variable.name binding) stands)
          | false ↦ λ differs. rw (look_old scope variable name differs, bound_other variables variable.name name binding differs) (agrees.stands name)
        ] refl;
  }

  -- a name in scope gets a new value
  pub agrees_set : (scope : List Variable) (variables : List Bound) (name : List ℕ) (k : Kind) (v : Value) → Agrees declared scope variables → look_up scope name ≡ Some (sort.Value k)
      → has_kind k v ≡ true → Agrees declared scope (bind variables name (Plain v))
  agrees_set scope variables name k v agrees found stands = record {
    stands = λ other.
        elim (bytes_eq name other)
        as (λ b. bytes_eq name other ≡ b → IfSome (look_up scope other) (λ s. StandsFor declared s (binding_of (bind variables name (Plain v)) other))) [
          | true ↦ λ same.
              subst (λ n. IfSome (look_up scope n) (λ s. StandsFor declared s (binding_of (bind variables name (Plain v)) n))) (equal_bytes name other same)
              (rw (found, bound_same variables name (Plain v)) stands)
          | false ↦ λ differs. rw (bound_other variables name other (Plain v) differs) (agrees.stands other)
        ] refl;
  }
