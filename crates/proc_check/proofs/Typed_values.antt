-- An expression of which the check knows the kind gives a value of that kind, or a fault of the transaction.
use Rattle.std.proofs.Common.{◌≡◌, refl, sym, ap, subst, ◌∙◌, List, map, Bool, true, false, not, Result, Ok, Option, Some, None}
use Rattle.rel_base.specs.declared.value.Kind.{Kind}
use Rattle.rel_base.specs.declared.value.Kind.TheVariants as kind
use Rattle.rel_base.specs.declared.value.Value.{Value}
use Rattle.rel_base.specs.declared.value.Value.TheVariants as value
use Rattle.proc_syntax.specs.declared.run.Stop.{Stop}
use Rattle.proc_syntax.specs.declared.tree.Expr.{Expr, Expr-F, map-Expr}
use Rattle.proc_syntax.specs.declared.tree.Expr.TheOpen as expr
use Rattle.proc_syntax.specs.declared.tree.TableText.{TableText}
use Rattle.proc_syntax.specs.Declaring.{declare}
use Rattle.proc_syntax.specs.Scope.{Environment, binding_of, value_step, value_of}
use Rattle.proc_syntax.proofs.ExprTrees.{Such, stripped, every_pair}
use Rattle.proc_syntax.proofs.Fits.{own_kind}
use Rattle.proc_check.specs.declared.expressions.Typed.{Typed}
use Rattle.proc_check.specs.declared.fault.BadKind.TheVariants.{WrongKind}
use Rattle.proc_check.specs.declared.scope.Variable.{Variable}
use Rattle.proc_check.specs.Walk.{◌>>=◌, refuse}
use Rattle.proc_check.specs.Scope.{look_up}
use Rattle.proc_check.specs.Kinds.{is_wanted, need, one, operand_kind, result_kind, left_kind, two, type_step, type_of}
use Rattle.proc_check.proofs.Limits.{not_refused}
use Rattle.proc_check.proofs.Operators.{GivesKind, IsOperand, not_kind, negation_kind, two_typed}
use Rattle.proc_check.proofs.Columns.{some_is}
use Rattle.proc_check.proofs.Names.{Agrees, ok_is, ok_then, name_kind, field_typed}

-- ---- what the steps of the check say

wanted_is : (needed k : Kind) → is_wanted (Some needed) k ≡ true → needed ≡ k
wanted_is kind.Int kind.Int h = refl
wanted_is kind.Int kind.Text h = cc
wanted_is kind.Int kind.Bool h = cc
wanted_is kind.Int kind.Bytes h = cc
wanted_is kind.Text kind.Int h = cc
wanted_is kind.Text kind.Text h = refl
wanted_is kind.Text kind.Bool h = cc
wanted_is kind.Text kind.Bytes h = cc
wanted_is kind.Bool kind.Int h = cc
wanted_is kind.Bool kind.Text h = cc
wanted_is kind.Bool kind.Bool h = refl
wanted_is kind.Bool kind.Bytes h = cc
wanted_is kind.Bytes kind.Int h = cc
wanted_is kind.Bytes kind.Text h = cc
wanted_is kind.Bytes kind.Bool h = cc
wanted_is kind.Bytes kind.Bytes h = refl

is_some_wanted : (wanted : Option Kind) (k : Kind) → is_wanted wanted k ≡ true → wanted ≡ Some k
is_some_wanted None k h = cc
is_some_wanted (Some needed) k h = ap Some (wanted_is needed k h)

pub not_false : (b : Bool) → not b ≡ false → b ≡ true
not_false true h = refl
not_false false h = cc

-- an expression that has the wanted kind
pub needed : (wanted : Option Kind) (typed : Typed) → need wanted typed ≡ Ok tt → (k : Kind) × (typed.kind ≡ Ok k) × (wanted ≡ Some k)
needed wanted typed ok =
    let found = ok_then typed.kind (λ k. refuse (not (is_wanted wanted k)) typed.line WrongKind) tt ok in
    (found.0, found.1, is_some_wanted wanted found.0 (not_false (is_wanted wanted found.0) (not_refused (not (is_wanted wanted found.0)) typed.line WrongKind found.2)))

pub needed_kind : (k : Kind) (typed : Typed) → need (Some k) typed ≡ Ok tt → typed.kind ≡ Ok k
needed_kind k typed ok = let found = needed (Some k) typed ok in found.1 ∙ ap Ok (sym (some_is found.2))

one_kind : (needed k : Kind) (typed : Typed) → one needed typed ≡ Ok k → (typed.kind ≡ Ok needed) × (needed ≡ k)
one_kind needed k typed ok =
    let found = ok_then (need (Some needed) typed) (λ _. Ok needed) k ok in
    (needed_kind needed typed found.1, ok_is found.2)

left_is : (wanted : Option Kind) (left : Typed) (k : Kind) → left_kind wanted left ≡ Ok k → (left.kind ≡ Ok k) × IsOperand wanted k
left_is None left k ok = (ok, tt)
left_is (Some needed) left k ok =
    let found = one_kind needed k left ok in
    (found.0 ∙ ap Ok found.1, found.1)

record Sides (wanted : Option Kind) (left right : Typed) (k : Kind) : Type 0 where
  pub kind : Kind
  pub left_has : left.kind ≡ Ok kind
  pub right_has : right.kind ≡ Ok kind
  pub operand : IsOperand wanted kind
  pub result : result_kind wanted ≡ k

sides : (wanted : Option Kind) (left right : Typed) (k : Kind) → two wanted left right ≡ Ok k → Sides wanted left right k
sides wanted left right k ok =
    let first = ok_then (left_kind wanted left) (λ kind. need (Some kind) right >>= λ _. Ok (result_kind wanted)) k ok in
    let second = ok_then (need (Some first.0) right) (λ _. Ok (result_kind wanted)) k first.2 in
    let of_left = left_is wanted left first.0 first.1 in
    record { kind = first.0; left_has = of_left.0; right_has = needed_kind first.0 right second.1; operand = of_left.1; result = ok_is second.2 }

-- ---- expressions

module _ (tables : List TableText) (scope : List Variable) (environment : Environment) (agrees : Agrees (map declare tables) scope environment.variables) where
  -- what the check knows of an expression holds of its value
  abbrev Holds : Typed → (Environment → Result Value Stop) → Type 0
  Holds typed worth = (k : Kind) → typed.kind ≡ Ok k → GivesKind k (worth environment)

  typed_step : (d : Expr-F (Such (λ e. Holds (type_of tables scope e) (value_of (map declare tables) e))))
      → Holds (type_step tables scope (map-Expr Expr Typed (type_of tables scope) (stripped d))) (value_step (map declare tables) (map-Expr Expr (Environment → Result Value Stop) (value_of (map declare tables)) (stripped d)))
  typed_step (expr.Value v line) k ok = subst (λ k. GivesKind k (Ok v)) (ok_is ok) (own_kind v)
  typed_step (expr.Var name) k ok = name_kind (map declare tables) (look_up scope name.name) (binding_of environment.variables name.name) name.line k (agrees.stands name.name) ok
  typed_step (expr.Field row column) k ok = field_typed tables (look_up scope row.name) (binding_of environment.variables row.name) row.line column k (agrees.stands row.name) ok
  typed_step (expr.Now line) k ok = subst (λ k. GivesKind k (Ok (value.Int environment.now))) (ok_is ok) (own_kind (value.Int environment.now))
  typed_step (expr.Not inner line) k ok =
      let found = one_kind kind.Bool k (type_of tables scope inner.0) ok in
      not_kind k (value_of (map declare tables) inner.0 environment) found.1 (inner.1 kind.Bool found.0)
  typed_step (expr.Neg inner line) k ok =
      let found = one_kind kind.Int k (type_of tables scope inner.0) ok in
      negation_kind k (value_of (map declare tables) inner.0 environment) found.1 (inner.1 kind.Int found.0)
  typed_step (expr.Paren inner line) k ok = inner.1 k ok
  typed_step (expr.Two op left right) k ok =
      let s = sides (operand_kind op) (type_of tables scope left.0) (type_of tables scope right.0) k ok in
      two_typed op s.kind k (value_of (map declare tables) left.0 environment) (value_of (map declare tables) right.0 environment) s.operand s.result (left.1 s.kind s.left_has) (right.1 s.kind s.right_has)

  pub expr_typed : (e : Expr) (k : Kind) → (type_of tables scope e).kind ≡ Ok k → GivesKind k (value_of (map declare tables) e environment)
  expr_typed = every_pair Typed (Environment → Result Value Stop) (type_step tables scope) (value_step (map declare tables)) Holds typed_step
