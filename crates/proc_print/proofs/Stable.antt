-- A tree and the same tree without line numbers have one text.
use Rattle.std.proofs.Common.{◌≡◌, ℕ, List, [], ◌∷◌, ◌++◌, map, Option, Some, None, refl, sym, ap, subst, ◌∙◌, codes}
use Rattle.std.specs.Prelude.{flat_map}
use Rattle.std.specs.Option.{option_map}
use Rattle.proc_syntax.specs.declared.tree.Named.{Named}
use Rattle.proc_syntax.specs.declared.tree.Change.{Change}
use Rattle.proc_syntax.specs.declared.tree.TableText.{TableText}
use Rattle.proc_syntax.specs.declared.tree.ProcDef.{ProcDef}
use Rattle.proc_syntax.specs.declared.tree.App.{App}
use Rattle.proc_syntax.specs.declared.tree.Expr.{Expr, Expr-F, fold-roll-Expr, map-Expr, roll-Expr}
use Rattle.proc_syntax.specs.declared.tree.Expr.TheOpen as open_expr
use Rattle.proc_syntax.specs.declared.tree.Expr.TheVariants as expr
use Rattle.proc_syntax.specs.declared.tree.Stmt.{Stmt, Stmt-F, fold-roll-Stmt, map-Stmt, roll-Stmt}
use Rattle.proc_syntax.specs.declared.tree.Stmt.TheOpen as open_stmt
use Rattle.proc_syntax.specs.declared.tree.Stmt.TheVariants as stmt
use Rattle.proc_syntax.proofs.Trees as trees
use Rattle.proc_syntax.proofs.ExprTrees as exprs
use Rattle.proc_print.specs.Printed.{listed, in_parens, op_text, expr_step, expr_text, line_text, block_text, end_text, change_text, keyed_text, ends_text, span_text, insert_text, update_text, delete_text, stmt_step, stmt_text, column_text, named_text, index_text, isolation_text, table_text, procedure_text, printed}
use Rattle.proc_print.specs.Unlined.{unlined_name, unlined_column, unlined_expr_step, unlined_expr, unlined_change, unlined_stmt_step, unlined_stmt, unlined_table, unlined_procedure, unlined}
use Rattle.proc_print.specs.Laws.{PrintsAreStable}
use Rattle.proc_print.proofs.PrintedBack.{prints_agree}

both : {a b c d : List ℕ} → a ≡ b → c ≡ d → a ++ c ≡ b ++ d
both {b = b} {c = c} e f = ap (λ a. a ++ c) e ∙ ap (λ c. b ++ c) f

-- ---- lists

all_same : {A : Type 0} → (text : A → List ℕ) (f : A → A) → ((x : A) → text (f x) ≡ text x) → (xs : List A) → flat_map text (map f xs) ≡ flat_map text xs
all_same text f h [] = refl
all_same text f h (x ∷ xs) = both (h x) (all_same text f h xs)

listed_same : {A : Type 0} → (text : A → List ℕ) (f : A → A) → ((x : A) → text (f x) ≡ text x) → (xs : List A) → listed text (map f xs) ≡ listed text xs
listed_same text f h [] = refl
listed_same text f h (x ∷ xs) = both (h x) (all_same (λ y. codes ", " ++ text y) f (λ y. ap (λ t. codes ", " ++ t) (h y)) xs)

parens_same : {A : Type 0} → (text : A → List ℕ) (f : A → A) → ((x : A) → text (f x) ≡ text x) → (xs : List A) → in_parens text (map f xs) ≡ in_parens text xs
parens_same text f h xs = ap (λ t. codes "(" ++ t ++ codes ")") (listed_same text f h xs)

-- ---- expressions

abbrev IsSame : Expr → Type 0
IsSame e = expr_text (unlined_expr e) ≡ expr_text e

drawn : (d : Expr-F Expr) → expr_text (roll-Expr d) ≡ expr_step (map-Expr Expr (List ℕ) expr_text d)
drawn d = fold-roll-Expr (List ℕ) expr_step d

expr_same : (d : Expr-F (exprs.Such IsSame)) → expr_text (unlined_expr_step (map-Expr Expr Expr unlined_expr (exprs.stripped d))) ≡ expr_step (map-Expr Expr (List ℕ) expr_text (exprs.stripped d))
expr_same (open_expr.Value v line) = ap expr_text (sym (expr.rolls-Value v 0)) ∙ drawn (open_expr.Value v 0)
expr_same (open_expr.Var name) = ap expr_text (sym (expr.rolls-Var (unlined_name name))) ∙ drawn (open_expr.Var (unlined_name name))
expr_same (open_expr.Field row column) =
    ap expr_text (sym (expr.rolls-Field (unlined_name row) (unlined_name column))) ∙ drawn (open_expr.Field (unlined_name row) (unlined_name column))
expr_same (open_expr.Now line) = ap expr_text (sym (expr.rolls-Now 0)) ∙ drawn (open_expr.Now 0)
expr_same (open_expr.Not inner line) =
    ap expr_text (sym (expr.rolls-Not (unlined_expr inner.0) 0)) ∙ drawn (open_expr.Not (unlined_expr inner.0) 0) ∙ ap (λ t. codes "not " ++ t) inner.1
expr_same (open_expr.Neg inner line) =
    ap expr_text (sym (expr.rolls-Neg (unlined_expr inner.0) 0)) ∙ drawn (open_expr.Neg (unlined_expr inner.0) 0) ∙ ap (λ t. codes "-" ++ t) inner.1
expr_same (open_expr.Paren inner line) =
    ap expr_text (sym (expr.rolls-Paren (unlined_expr inner.0) 0)) ∙ drawn (open_expr.Paren (unlined_expr inner.0) 0) ∙ ap (λ t. codes "(" ++ t ++ codes ")") inner.1
expr_same (open_expr.Two o left right) =
    ap expr_text (sym (expr.rolls-Two o (unlined_expr left.0) (unlined_expr right.0))) ∙ drawn (open_expr.Two o (unlined_expr left.0) (unlined_expr right.0))
    ∙ both (ap (λ t. t ++ op_text o) left.1) right.1

rolled_same : (d : Expr-F (exprs.Such IsSame)) → IsSame (roll-Expr (exprs.stripped d))
rolled_same d = ap expr_text (fold-roll-Expr Expr unlined_expr_step (exprs.stripped d)) ∙ expr_same d ∙ sym (drawn (exprs.stripped d))

same_expr : (e : Expr) → IsSame e
same_expr = exprs.every_expr IsSame rolled_same

exprs_same : (es : List Expr) → in_parens expr_text (map unlined_expr es) ≡ in_parens expr_text es
exprs_same es = parens_same expr_text unlined_expr same_expr es

keyed_same : (table : Named) (key : List Expr) → keyed_text (unlined_name table) (map unlined_expr key) ≡ keyed_text table key
keyed_same table key = ap (λ t. table.name ++ codes " key " ++ t) (exprs_same key)

change_same : (change : Change) → change_text (unlined_change change) ≡ change_text change
change_same change = ap (λ t. change.column.name ++ codes " = " ++ t) (same_expr change.value)

end_same : (word : List ℕ) (e : Option Expr) → end_text word (option_map unlined_expr e) ≡ end_text word e
end_same word None = refl
end_same word (Some e) = ap (λ t. word ++ t) (same_expr e)

ends_same : (low high : Option Expr) → ends_text (option_map unlined_expr low) (option_map unlined_expr high) ≡ ends_text low high
unfolding ends_text
ends_same low high = ap (λ t. t ++ codes " ") (both (end_same (codes " from ") low) (end_same (codes " to ") high))

span_same : (name table column : Named) → span_text (unlined_name name) (unlined_name table) (unlined_name column) ≡ span_text name table column
unfolding span_text
span_same name table column = refl

insert_same : (table : Named) (values : List Expr) → insert_text (unlined_name table) (map unlined_expr values) ≡ insert_text table values
unfolding insert_text
insert_same table values = ap (λ t. codes "insert " ++ table.name ++ codes " " ++ t ++ codes ";") (exprs_same values)

update_same : (table : Named) (key : List Expr) (changes : List Change) → update_text (unlined_name table) (map unlined_expr key) (map unlined_change changes) ≡ update_text table key changes
unfolding update_text
update_same table key changes =
    ap (λ t. t ++ codes ";") (both (ap (λ t. codes "update " ++ t ++ codes " set ") (keyed_same table key)) (listed_same change_text unlined_change change_same changes))

delete_same : (table : Named) (key : List Expr) → delete_text (unlined_name table) (map unlined_expr key) ≡ delete_text table key
unfolding delete_text
delete_same table key = ap (λ t. codes "delete " ++ t ++ codes ";") (keyed_same table key)

-- ---- statements

abbrev IsSameAt : Stmt → Type 0
IsSameAt s = (margin : List ℕ) → stmt_text (unlined_stmt s) margin ≡ stmt_text s margin

abbrev SuchStmt : Type 0
SuchStmt = trees.Such IsSameAt

abbrev bare_stmt : SuchStmt → Stmt
bare_stmt s = s.0

abbrev bodies : List SuchStmt → List Stmt
bodies body = map bare_stmt body

lines_same : (body : List SuchStmt) (margin : List ℕ) → flat_map (line_text margin) (map stmt_text (map unlined_stmt (bodies body))) ≡ flat_map (line_text margin) (map stmt_text (bodies body))
lines_same [] margin = refl
lines_same (s ∷ body) margin = both (ap (λ t. margin ++ t ++ codes "\n") (s.1 margin)) (lines_same body margin)

block_same : (body : List SuchStmt) (margin : List ℕ) → block_text (map stmt_text (map unlined_stmt (bodies body))) margin ≡ block_text (map stmt_text (bodies body)) margin
block_same body margin = ap (λ t. codes "{\n" ++ t ++ margin ++ codes "}") (lines_same body (margin ++ codes "  "))

-- an `if` but for its `else`
if_same : (test : Expr) (body : List SuchStmt) (margin : List ℕ)
    → codes "if " ++ expr_text (unlined_expr test) ++ codes " " ++ block_text (map stmt_text (map unlined_stmt (bodies body))) margin
    ≡ codes "if " ++ expr_text test ++ codes " " ++ block_text (map stmt_text (bodies body)) margin
if_same test body margin = both (ap (λ t. codes "if " ++ t ++ codes " ") (same_expr test)) (block_same body margin)

did : (d : Stmt-F Stmt) (s : Stmt) (margin : List ℕ) → roll-Stmt d ≡ s → stmt_text s margin ≡ stmt_step (map-Stmt Stmt (List ℕ → List ℕ) stmt_text d) margin
did d s margin e = ap (λ s. stmt_text s margin) (sym e) ∙ ap (λ (t : List ℕ → List ℕ). t margin) (fold-roll-Stmt (List ℕ → List ℕ) stmt_step d)

stmt_same : (d : Stmt-F SuchStmt) (margin : List ℕ)
    → stmt_text (unlined_stmt_step (map-Stmt Stmt Stmt unlined_stmt (trees.stripped d))) margin ≡ stmt_step (map-Stmt Stmt (List ℕ → List ℕ) stmt_text (trees.stripped d)) margin
stmt_same (open_stmt.Let name e) margin =
    did (open_stmt.Let (unlined_name name) (unlined_expr e)) _ margin (stmt.rolls-Let (unlined_name name) (unlined_expr e))
    ∙ ap (λ t. codes "let " ++ name.name ++ codes " = " ++ t ++ codes ";") (same_expr e)
stmt_same (open_stmt.Assign name e) margin =
    did (open_stmt.Assign (unlined_name name) (unlined_expr e)) _ margin (stmt.rolls-Assign (unlined_name name) (unlined_expr e))
    ∙ ap (λ t. name.name ++ codes " = " ++ t ++ codes ";") (same_expr e)
stmt_same (open_stmt.If test body None) margin =
    did (open_stmt.If (unlined_expr test) (map unlined_stmt (bodies body)) None) _ margin (stmt.rolls-If (unlined_expr test) (map unlined_stmt (bodies body)) None)
    ∙ ap (λ t. t ++ []) (if_same test body margin)
stmt_same (open_stmt.If test body (Some other)) margin =
    did (open_stmt.If (unlined_expr test) (map unlined_stmt (bodies body)) (Some (map unlined_stmt (bodies other)))) _ margin
    (stmt.rolls-If (unlined_expr test) (map unlined_stmt (bodies body)) (Some (map unlined_stmt (bodies other))))
    ∙ both (if_same test body margin) (ap (λ t. codes " else " ++ t) (block_same other margin))
stmt_same (open_stmt.Get name table key found absent) margin =
    did (open_stmt.Get (unlined_name name) (unlined_name table) (map unlined_expr key) (map unlined_stmt (bodies found)) (map unlined_stmt (bodies absent))) _ margin
    (stmt.rolls-Get (unlined_name name) (unlined_name table) (map unlined_expr key) (map unlined_stmt (bodies found)) (map unlined_stmt (bodies absent)))
    ∙ both (ap (λ t. t ++ codes " else ") (both (ap (λ t. codes "get " ++ name.name ++ codes " from " ++ t ++ codes " ") (keyed_same table key)) (block_same found margin))) (block_same absent margin)
stmt_same (open_stmt.For name table column low high body) margin =
    did (open_stmt.For (unlined_name name) (unlined_name table) (unlined_name column) (option_map unlined_expr low) (option_map unlined_expr high) (map unlined_stmt (bodies body))) _ margin
    (stmt.rolls-For (unlined_name name) (unlined_name table) (unlined_name column) (option_map unlined_expr low) (option_map unlined_expr high) (map unlined_stmt (bodies body)))
    ∙ both (both (span_same name table column) (ends_same low high)) (block_same body margin)
stmt_same (open_stmt.Insert table values) margin =
    did (open_stmt.Insert (unlined_name table) (map unlined_expr values)) _ margin (stmt.rolls-Insert (unlined_name table) (map unlined_expr values)) ∙ insert_same table values
stmt_same (open_stmt.Update table key changes) margin =
    did (open_stmt.Update (unlined_name table) (map unlined_expr key) (map unlined_change changes)) _ margin
    (stmt.rolls-Update (unlined_name table) (map unlined_expr key) (map unlined_change changes))
    ∙ update_same table key changes
stmt_same (open_stmt.Delete table key) margin =
    did (open_stmt.Delete (unlined_name table) (map unlined_expr key)) _ margin (stmt.rolls-Delete (unlined_name table) (map unlined_expr key)) ∙ delete_same table key
stmt_same (open_stmt.Fail text) margin = did (open_stmt.Fail text) _ margin (stmt.rolls-Fail text)

same_stmt : (s : Stmt) → IsSameAt s
same_stmt = trees.every_stmt IsSameAt (λ d margin.
    ap (λ s. stmt_text s margin) (fold-roll-Stmt Stmt unlined_stmt_step (trees.stripped d)) ∙ stmt_same d margin
    ∙ sym (did (trees.stripped d) (roll-Stmt (trees.stripped d)) margin refl))

-- ---- declarations

abbrev such : Stmt → SuchStmt
such s = (s, same_stmt s)

same_bodies : (body : List Stmt) → bodies (map such body) ≡ body
same_bodies [] = refl
same_bodies (s ∷ body) = ap (λ stmts. s ∷ stmts) (same_bodies body)

body_same : (body : List Stmt) (margin : List ℕ) → block_text (map stmt_text (map unlined_stmt body)) margin ≡ block_text (map stmt_text body) margin
body_same body margin = subst (λ body. block_text (map stmt_text (map unlined_stmt body)) margin ≡ block_text (map stmt_text body) margin) (same_bodies body) (block_same (map such body) margin)

names_same : (names : List Named) → in_parens named_text (map unlined_name names) ≡ in_parens named_text names
names_same names = parens_same named_text unlined_name (λ name. refl) names

index_same : (index : List Named) → index_text (map unlined_name index) ≡ index_text index
index_same [] = refl
index_same (name ∷ names) = ap (λ t. codes " index " ++ t) (names_same (name ∷ names))

table_same : (t : TableText) → table_text (unlined_table t) ≡ table_text t
table_same t =
    ap (λ text. text ++ codes ";\n") (both
    (both (ap (λ columns. codes "table " ++ t.name.name ++ codes " " ++ columns ++ codes " key ") (parens_same column_text unlined_column (λ column. refl) t.columns)) (names_same t.key))
    (index_same t.index))

procedure_same : (p : ProcDef) → procedure_text (unlined_procedure p) ≡ procedure_text p
procedure_same p =
    ap (λ text. text ++ codes "\n") (both
    (ap (λ params. codes "proc " ++ p.name.name ++ params ++ codes " ") (parens_same column_text unlined_column (λ column. refl) p.params))
    (body_same p.body []))

unlined_prints : (app : App) → printed (unlined app) ≡ printed app
unlined_prints app =
    both (ap (λ text. isolation_text app.exact ++ text) (all_same table_text unlined_table table_same app.tables))
    (all_same procedure_text unlined_procedure procedure_same app.procs)

pub prints_are_stable : PrintsAreStable
prints_are_stable text app again found read = sym (unlined_prints again) ∙ ap printed (prints_agree text app again found read) ∙ unlined_prints app
