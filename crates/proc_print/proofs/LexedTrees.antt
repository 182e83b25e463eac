-- The text of a tree has the tokens of the tree.
use Rattle.std.proofs.Common.{◌≡◌, ℕ, Bool, true, false, List, [], ◌∷◌, ◌++◌, map, Option, Some, None, refl, sym, ap, subst, codes}
use Rattle.std.specs.Prelude.{flat_map}
use Rattle.proc_syntax.specs.declared.tree.Named.{Named}
use Rattle.proc_syntax.specs.declared.tree.Change.{Change}
use Rattle.proc_syntax.specs.declared.tree.ColumnText.{ColumnText}
use Rattle.proc_syntax.specs.declared.tree.TableText.{TableText}
use Rattle.proc_syntax.specs.declared.tree.ProcDef.{ProcDef}
use Rattle.proc_syntax.specs.declared.tree.App.{App}
use Rattle.proc_syntax.specs.declared.tree.Expr.{Expr, Expr-F, fold-roll-Expr, map-Expr, roll-Expr}
use Rattle.proc_syntax.specs.declared.tree.Expr.TheOpen as open_expr
use Rattle.proc_syntax.specs.declared.tree.Stmt.{Stmt, Stmt-F, fold-roll-Stmt, map-Stmt, roll-Stmt}
use Rattle.proc_syntax.specs.declared.tree.Stmt.TheOpen as open_stmt
use Rattle.proc_syntax.proofs.Trees as trees
use Rattle.proc_syntax.proofs.ExprTrees as exprs
use Rattle.proc_parse.specs.declared.token.Word.{Word}
use Rattle.proc_parse.specs.declared.token.Word.TheVariants as word
use Rattle.proc_parse.specs.Words.{spelling}
use Rattle.proc_print.specs.Printed.{listed, in_parens, expr_step, expr_text, line_text, block_text, end_text, change_text, keyed_text, ends_text, span_text, insert_text, update_text, delete_text, fail_text, stmt_step, stmt_text, column_text, named_text, index_text, isolation_text, table_text, procedure_text, printed}
use Rattle.proc_print.proofs.Spoken.{Spoken, silent, say_word, say_name, say_more, say_listed, say_parens, say_all, say_expr_step, say_expr, say_keyed, say_change, say_end, in_turn, say_block, say_stmt_step, say_stmt, say_column, say_exact, say_index, say_table, say_procedure}
use Rattle.proc_print.proofs.Lexed.{Ends, Closed, Open, closed_closed, closed_open, open_closed, open_open, opened, closed_none}
use Rattle.proc_print.proofs.LexedTokens.{blank, line_end, open_sign, close_sign, open_brace, close_brace, comma, semicolon, dot, minus, equal, keyword, inner_word, kind_open, kind_ends, name_open, op_closed, op_ends, text_closed, value_open, word_open}

-- ---- lists

more_ends : {A : Type 0} → (text : A → List ℕ) (xs : List A) (rest : List ℕ) → Ends rest → Ends (flat_map (λ y. codes ", " ++ text y) xs ++ rest)
more_ends text [] rest e = e
more_ends text (x ∷ xs) rest e = refl

more_open : {A : Type 0} → (text : A → List ℕ) (say : A → Spoken) → ((x : A) → Open (text x) (say x)) → (xs : List A) → Open (flat_map (λ y. codes ", " ++ text y) xs) (say_more say xs)
more_open text say h [] = opened closed_none
more_open text say h (x ∷ xs) = open_open (closed_open (closed_closed comma blank) (h x)) (more_open text say h xs) (more_ends text xs)

listed_open : {A : Type 0} → (text : A → List ℕ) (say : A → Spoken) → ((x : A) → Open (text x) (say x)) → (xs : List A) → Open (listed text xs) (say_listed say xs)
listed_open text say h [] = opened closed_none
listed_open text say h (x ∷ xs) = open_open (h x) (more_open text say h xs) (more_ends text xs)

parens_closed : {A : Type 0} → (text : A → List ℕ) (say : A → Spoken) → ((x : A) → Open (text x) (say x)) → (xs : List A) → Closed (in_parens text xs) (say_parens say xs)
parens_closed text say h xs = open_closed (closed_open open_sign (listed_open text say h xs)) close_sign (λ rest. refl)

all_closed : {A : Type 0} → (text : A → List ℕ) (say : A → Spoken) → ((x : A) → Closed (text x) (say x)) → (xs : List A) → Closed (flat_map text xs) (say_all say xs)
all_closed text say h [] = closed_none
all_closed text say h (x ∷ xs) = closed_closed (h x) (all_closed text say h xs)

-- ---- expressions

abbrev IsSaid : Expr → Type 0
IsSaid e = Open (expr_text e) (say_expr e)

expr_said : (d : Expr-F (exprs.Such IsSaid)) → Open (expr_step (map-Expr Expr (List ℕ) expr_text (exprs.stripped d))) (say_expr_step (map-Expr Expr Spoken say_expr (exprs.stripped d)))
expr_said (open_expr.Value v line) = value_open v
expr_said (open_expr.Var name) = name_open name
expr_said (open_expr.Field row column) = closed_open (open_closed (name_open row) dot (λ rest. refl)) (name_open column)
expr_said (open_expr.Now line) = word_open word.Now
expr_said (open_expr.Not inner line) = closed_open (keyword word.Not) inner.1
expr_said (open_expr.Neg inner line) = closed_open minus inner.1
expr_said (open_expr.Paren inner line) = opened (open_closed (closed_open open_sign inner.1) close_sign (λ rest. refl))
expr_said (open_expr.Two o left right) = closed_open (open_closed left.1 (op_closed o) (op_ends o)) right.1

rolled_said : (d : Expr-F (exprs.Such IsSaid)) → IsSaid (roll-Expr (exprs.stripped d))
rolled_said d =
    subst (λ text. Open text (say_expr (roll-Expr (exprs.stripped d)))) (sym (fold-roll-Expr (List ℕ) expr_step (exprs.stripped d)))
    (subst (λ say. Open (expr_step (map-Expr Expr (List ℕ) expr_text (exprs.stripped d))) say) (sym (fold-roll-Expr Spoken say_expr_step (exprs.stripped d))) (expr_said d))

expr_open : (e : Expr) → IsSaid e
expr_open = exprs.every_expr IsSaid rolled_said

exprs_closed : (es : List Expr) → Closed (in_parens expr_text es) (say_parens say_expr es)
exprs_closed es = parens_closed expr_text say_expr expr_open es

keyed_closed : (table : Named) (key : List Expr) → Closed (keyed_text table key) (say_keyed table key)
keyed_closed table key = closed_closed (open_closed (name_open table) (inner_word word.Key) (λ rest. refl)) (exprs_closed key)

change_open : (change : Change) → Open (change_text change) (say_change change)
change_open change = closed_open (open_closed (name_open change.column) equal (λ rest. refl)) (expr_open change.value)

end_open : (w : Word) (e : Option Expr) → Open (end_text (codes " " ++ (spelling w ++ codes " ")) e) (say_end w e)
end_open w None = opened closed_none
end_open w (Some e) = closed_open (inner_word w) (expr_open e)

end_ends : (w : Word) (e : Option Expr) (rest : List ℕ) → Ends rest → Ends (end_text (codes " " ++ (spelling w ++ codes " ")) e ++ rest)
end_ends w None rest h = h
end_ends w (Some e) rest h = refl

span_ends : (low high : Option Expr) (rest : List ℕ) → Ends (ends_text low high ++ rest)
unfolding ends_text
span_ends None None rest = refl
span_ends None (Some high) rest = refl
span_ends (Some low) high rest = refl

ends_closed : (low high : Option Expr) → Closed (ends_text low high) (λ r. say_end word.From low (say_end word.To high r))
unfolding ends_text
ends_closed low high = open_closed (open_open (end_open word.From low) (end_open word.To high) (end_ends word.To high)) blank (λ rest. refl)

span_open : (name table column : Named)
    → Open (span_text name table column) (λ r. say_word word.For (say_name name (say_word word.In (say_name table (say_word word.Span (say_word word.On (say_name column r)))))))
unfolding span_text
span_open name table column =
    closed_open (open_closed (closed_open (open_closed (closed_open (keyword word.For) (name_open name)) (inner_word word.In) (λ rest. refl)) (name_open table))
    (closed_closed (inner_word word.Span) (keyword word.On)) (λ rest. refl)) (name_open column)

-- ---- statements

-- after each margin of blanks
abbrev IsSaidAt : (List ℕ → List ℕ) → Spoken → Type 0
IsSaidAt text say = (margin : List ℕ) → Closed margin silent → Closed (text margin) say

abbrev IsStmtSaid : Stmt → Type 0
IsStmtSaid s = IsSaidAt (stmt_text s) (say_stmt s)

abbrev SuchStmt : Type 0
SuchStmt = trees.Such IsStmtSaid

abbrev bare_stmt : SuchStmt → Stmt
bare_stmt s = s.0

abbrev texts_of : List SuchStmt → List (List ℕ → List ℕ)
texts_of body = map stmt_text (map bare_stmt body)

abbrev says_of : List SuchStmt → List Spoken
says_of body = map say_stmt (map bare_stmt body)

lines_closed : (body : List SuchStmt) (margin : List ℕ) → Closed margin silent → Closed (flat_map (line_text margin) (texts_of body)) (in_turn (says_of body))
lines_closed [] margin h = closed_none
lines_closed (s ∷ body) margin h = closed_closed (closed_closed (closed_closed h (s.1 margin h)) line_end) (lines_closed body margin h)

block_closed : (body : List SuchStmt) (margin : List ℕ) → Closed margin silent → Closed (block_text (texts_of body) margin) (say_block (says_of body))
block_closed body margin h =
    closed_closed (closed_closed (closed_closed (closed_closed open_brace line_end) (lines_closed body (margin ++ codes "  ") (closed_closed h (closed_closed blank blank)))) h) close_brace

if_closed : (test : Expr) (body : List SuchStmt) (margin : List ℕ) → Closed margin silent
    → Closed (codes "if " ++ expr_text test ++ codes " " ++ block_text (texts_of body) margin) (λ r. say_word word.If (say_expr test (say_block (says_of body) r)))
if_closed test body margin h = closed_closed (open_closed (closed_open (keyword word.If) (expr_open test)) blank (λ rest. refl)) (block_closed body margin h)

stmt_said : (d : Stmt-F SuchStmt)
    → IsSaidAt (stmt_step (map-Stmt Stmt (List ℕ → List ℕ) stmt_text (trees.stripped d))) (say_stmt_step (map-Stmt Stmt Spoken say_stmt (trees.stripped d)))
unfolding insert_text update_text delete_text fail_text
stmt_said (open_stmt.Let name e) margin h =
    open_closed (closed_open (open_closed (closed_open (keyword word.Let) (name_open name)) equal (λ rest. refl)) (expr_open e)) semicolon (λ rest. refl)
stmt_said (open_stmt.Assign name e) margin h = open_closed (closed_open (open_closed (name_open name) equal (λ rest. refl)) (expr_open e)) semicolon (λ rest. refl)
stmt_said (open_stmt.If test body None) margin h = closed_closed (if_closed test body margin h) closed_none
stmt_said (open_stmt.If test body (Some other)) margin h = closed_closed (if_closed test body margin h) (closed_closed (inner_word word.Else) (block_closed other margin h))
stmt_said (open_stmt.Get name table key found absent) margin h =
    closed_closed (closed_closed (closed_closed (closed_closed (closed_closed (open_closed (closed_open (keyword word.Get) (name_open name)) (inner_word word.From) (λ rest. refl))
    (keyed_closed table key)) blank) (block_closed found margin h)) (inner_word word.Else)) (block_closed absent margin h)
stmt_said (open_stmt.For name table column low high body) margin h =
    closed_closed (open_closed (span_open name table column) (ends_closed low high) (span_ends low high)) (block_closed body margin h)
stmt_said (open_stmt.Insert table values) margin h =
    closed_closed (closed_closed (open_closed (closed_open (keyword word.Insert) (name_open table)) blank (λ rest. refl)) (exprs_closed values)) semicolon
stmt_said (open_stmt.Update table key changes) margin h =
    open_closed (closed_open (closed_closed (closed_closed (keyword word.Update) (keyed_closed table key)) (inner_word word.Set)) (listed_open change_text say_change change_open changes))
    semicolon (λ rest. refl)
stmt_said (open_stmt.Delete table key) margin h = closed_closed (closed_closed (keyword word.Delete) (keyed_closed table key)) semicolon
stmt_said (open_stmt.Fail text) margin h = closed_closed (closed_closed (keyword word.Fail) (text_closed text)) semicolon

stmt_closed : (s : Stmt) → IsStmtSaid s
stmt_closed = trees.every_stmt IsStmtSaid (λ d.
    subst (λ text. IsSaidAt text (say_stmt (roll-Stmt (trees.stripped d)))) (sym (fold-roll-Stmt (List ℕ → List ℕ) stmt_step (trees.stripped d)))
    (subst (λ say. IsSaidAt (stmt_step (map-Stmt Stmt (List ℕ → List ℕ) stmt_text (trees.stripped d))) say) (sym (fold-roll-Stmt Spoken say_stmt_step (trees.stripped d))) (stmt_said d)))

abbrev such : Stmt → SuchStmt
such s = (s, stmt_closed s)

-- ---- declarations

column_open : (column : ColumnText) → Open (column_text column) (say_column column)
column_open column = open_open (name_open column.name) (kind_open column.kind) (λ rest e. kind_ends column.kind rest)

columns_closed : (columns : List ColumnText) → Closed (in_parens column_text columns) (say_parens say_column columns)
columns_closed columns = parens_closed column_text say_column column_open columns

names_closed : (names : List Named) → Closed (in_parens named_text names) (say_parens say_name names)
names_closed names = parens_closed named_text say_name name_open names

index_closed : (index : List Named) → Closed (index_text index) (say_index index)
index_closed [] = closed_none
index_closed (name ∷ names) = closed_closed (inner_word word.Index) (names_closed (name ∷ names))

table_closed : (t : TableText) → Closed (table_text t) (say_table t)
table_closed t =
    closed_closed (closed_closed (closed_closed (closed_closed (closed_closed (open_closed (closed_open (keyword word.Table) (name_open t.name)) blank (λ rest. refl))
    (columns_closed t.columns)) (inner_word word.Key)) (names_closed t.key)) (index_closed t.index)) (closed_closed semicolon line_end)

body_closed : (body : List Stmt) → Closed (block_text (map stmt_text body) []) (say_block (map say_stmt body))
body_closed body =
    subst (λ stmts. Closed (block_text (map stmt_text stmts) []) (say_block (map say_stmt stmts))) (same_body body) (block_closed (map such body) [] closed_none)
  where
    same_body : (body : List Stmt) → map bare_stmt (map such body) ≡ body
    same_body [] = refl
    same_body (s ∷ body) = ap (λ stmts. s ∷ stmts) (same_body body)

procedure_closed : (p : ProcDef) → Closed (procedure_text p) (say_procedure p)
procedure_closed p =
    closed_closed (closed_closed (closed_closed (open_closed (closed_open (keyword word.Proc) (name_open p.name)) (columns_closed p.params) (λ rest. refl)) blank) (body_closed p.body)) line_end

-- the tokens of an application but for the end
abbrev pub say_all_of : App → Spoken
say_all_of app r = say_exact app.exact (say_all say_table app.tables (say_all say_procedure app.procs r))

exact_closed : (exact : Bool) → Closed (isolation_text exact) (say_exact exact)
exact_closed false = closed_none
exact_closed true = closed_closed (keyword word.Isolation) (open_closed (word_open word.Exact) (closed_closed semicolon line_end) (λ rest. refl))

pub app_closed : (app : App) → Closed (printed app) (say_all_of app)
app_closed app =
    closed_closed (closed_closed (exact_closed app.exact) (all_closed table_text say_table table_closed app.tables))
    (all_closed procedure_text say_procedure procedure_closed app.procs)
