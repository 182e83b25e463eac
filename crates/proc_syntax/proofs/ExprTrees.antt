-- Induction on expressions.
use Rattle.std.proofs.Common.{subst, sym}
use Rattle.proc_syntax.specs.declared.tree.Expr.{Expr, Expr-F, fold-Expr, fold-roll-Expr, ind-Expr, map-Expr, roll-Expr}

-- an expression, and what holds of it
abbrev pub Such : (Expr → Type 0) → Type 0
Such P = (e : Expr) × P e

abbrev pub bare : {P : Expr → Type 0} → Such P → Expr
bare e = e.0

abbrev pub stripped : {P : Expr → Type 0} → Expr-F (Such P) → Expr-F Expr
stripped {P = P} d = map-Expr (Such P) Expr bare d

-- what holds of each expression where it holds of those inside it
pub every_expr : (P : Expr → Type 0) → ((d : Expr-F (Such P)) → P (roll-Expr (stripped d))) → (e : Expr) → P e
every_expr P step = ind-Expr P (λ x y e. subst (λ x. P (roll-Expr x)) e (step y))

-- the same of what two folds make of an expression
pub every_pair : (A B : Type 0) (f : Expr-F A → A) (g : Expr-F B → B) (R : A → B → Type 0)
    → ((d : Expr-F (Such (λ e. R (fold-Expr A f e) (fold-Expr B g e)))) → R (f (map-Expr Expr A (fold-Expr A f) (stripped d))) (g (map-Expr Expr B (fold-Expr B g) (stripped d))))
    → (e : Expr) → R (fold-Expr A f e) (fold-Expr B g e)
every_pair A B f g R each = every_expr (λ e. R (fold-Expr A f e) (fold-Expr B g e)) (λ d.
    subst (λ a. R a (fold-Expr B g (roll-Expr (stripped d)))) (sym (fold-roll-Expr A f (stripped d)))
    (subst (R (f (map-Expr Expr A (fold-Expr A f) (stripped d)))) (sym (fold-roll-Expr B g (stripped d))) (each d)))
