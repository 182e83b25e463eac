-- Induction on statements.
use Rattle.std.proofs.Common.{subst, sym}
use Rattle.proc_syntax.specs.declared.tree.Stmt.{Stmt, Stmt-F, fold-Stmt, fold-roll-Stmt, ind-Stmt, map-Stmt, roll-Stmt}

-- a statement, and what holds of it
abbrev pub Such : (Stmt → Type 0) → Type 0
Such P = (s : Stmt) × P s

abbrev pub bare : {P : Stmt → Type 0} → Such P → Stmt
bare e = e.0

abbrev pub stripped : {P : Stmt → Type 0} → Stmt-F (Such P) → Stmt-F Stmt
stripped {P = P} d = map-Stmt (Such P) Stmt bare d

-- what holds of each statement where it holds of the statements of its blocks
pub every_stmt : (P : Stmt → Type 0) → ((d : Stmt-F (Such P)) → P (roll-Stmt (stripped d))) → (s : Stmt) → P s
every_stmt P step = ind-Stmt P (λ x y e. subst (λ x. P (roll-Stmt x)) e (step y))

-- the same of what a fold makes of a statement
pub every_fold : (A : Type 0) (step : Stmt-F A → A) (P : A → Type 0)
    → ((d : Stmt-F (Such (λ s. P (fold-Stmt A step s)))) → P (step (map-Stmt Stmt A (fold-Stmt A step) (stripped d)))) → (s : Stmt) → P (fold-Stmt A step s)
every_fold A step P each = every_stmt (λ s. P (fold-Stmt A step s)) (λ d. subst P (sym (fold-roll-Stmt A step (stripped d))) (each d))

-- the same of what two folds make of a statement
pub every_pair : (A B : Type 0) (f : Stmt-F A → A) (g : Stmt-F B → B) (R : A → B → Type 0)
    → ((d : Stmt-F (Such (λ s. R (fold-Stmt A f s) (fold-Stmt B g s)))) → R (f (map-Stmt Stmt A (fold-Stmt A f) (stripped d))) (g (map-Stmt Stmt B (fold-Stmt B g) (stripped d))))
    → (s : Stmt) → R (fold-Stmt A f s) (fold-Stmt B g s)
every_pair A B f g R each = every_stmt (λ s. R (fold-Stmt A f s) (fold-Stmt B g s)) (λ d.
    subst (λ a. R a (fold-Stmt B g (roll-Stmt (stripped d)))) (sym (fold-roll-Stmt A f (stripped d)))
    (subst (R (f (map-Stmt Stmt A (fold-Stmt A f) (stripped d)))) (sym (fold-roll-Stmt B g (stripped d))) (each d)))
