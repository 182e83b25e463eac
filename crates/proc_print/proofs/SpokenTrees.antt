-- The tokens of each kind of tree, by those of its parts.
use Rattle.std.proofs.Common.{◌≡◌, ℕ, List, ◌∷◌, map, Option, Some, None, sym, ap, ◌∙◌}
use Rattle.rel_base.specs.declared.value.Value.{Value}
use Rattle.proc_syntax.specs.declared.tree.Op.{Op}
use Rattle.proc_syntax.specs.declared.tree.Named.{Named}
use Rattle.proc_syntax.specs.declared.tree.Change.{Change}
use Rattle.proc_syntax.specs.declared.tree.Expr.{Expr, Expr-F, fold-roll-Expr, map-Expr, roll-Expr}
use Rattle.proc_syntax.specs.declared.tree.Expr.TheOpen as open_expr
use Rattle.proc_syntax.specs.declared.tree.Expr.TheVariants as expr
use Rattle.proc_syntax.specs.declared.tree.Stmt.{Stmt, Stmt-F, fold-roll-Stmt, map-Stmt, roll-Stmt}
use Rattle.proc_syntax.specs.declared.tree.Stmt.TheOpen as open_stmt
use Rattle.proc_syntax.specs.declared.tree.Stmt.TheVariants as stmt
use Rattle.proc_parse.specs.declared.token.Lexeme.{Lexeme}
use Rattle.proc_parse.specs.declared.token.Lexeme.TheVariants as lexeme
use Rattle.proc_parse.specs.declared.token.Word.TheVariants as word
use Rattle.proc_parse.specs.declared.token.Sign.TheVariants as sign
use Rattle.proc_print.proofs.Spoken.{Spoken, say_word, say_sign, say_name, say_listed, say_parens, op_lexeme, value_lexeme, say_expr_step, say_expr, say_keyed, say_change, say_end, say_block, say_stmt_step, say_stmt}

said : (d : Expr-F Expr) (r : List Lexeme) → say_expr (roll-Expr d) r ≡ say_expr_step (map-Expr Expr Spoken say_expr d) r
said d r = ap (λ (s : Spoken). s r) (fold-roll-Expr Spoken say_expr_step d)

pub said_now : (line : ℕ) (r : List Lexeme) → say_expr (expr.Now line) r ≡ lexeme.Word word.Now ∷ r
said_now line r = ap (λ (e : Expr). say_expr e r) (sym (expr.rolls-Now line)) ∙ said (open_expr.Now line) r

pub said_value : (v : Value) (line : ℕ) (r : List Lexeme) → say_expr (expr.Value v line) r ≡ value_lexeme v ∷ r
said_value v line r = ap (λ (e : Expr). say_expr e r) (sym (expr.rolls-Value v line)) ∙ said (open_expr.Value v line) r

pub said_var : (name : Named) (r : List Lexeme) → say_expr (expr.Var name) r ≡ say_name name r
said_var name r = ap (λ (e : Expr). say_expr e r) (sym (expr.rolls-Var name)) ∙ said (open_expr.Var name) r

pub said_field : (row column : Named) (r : List Lexeme) → say_expr (expr.Field row column) r ≡ say_name row (say_sign sign.Dot (say_name column r))
said_field row column r = ap (λ (e : Expr). say_expr e r) (sym (expr.rolls-Field row column)) ∙ said (open_expr.Field row column) r

pub said_not : (inner : Expr) (line : ℕ) (r : List Lexeme) → say_expr (expr.Not inner line) r ≡ say_word word.Not (say_expr inner r)
said_not inner line r = ap (λ (e : Expr). say_expr e r) (sym (expr.rolls-Not inner line)) ∙ said (open_expr.Not inner line) r

pub said_neg : (inner : Expr) (line : ℕ) (r : List Lexeme) → say_expr (expr.Neg inner line) r ≡ say_sign sign.Minus (say_expr inner r)
said_neg inner line r = ap (λ (e : Expr). say_expr e r) (sym (expr.rolls-Neg inner line)) ∙ said (open_expr.Neg inner line) r

pub said_paren : (inner : Expr) (line : ℕ) (r : List Lexeme) → say_expr (expr.Paren inner line) r ≡ say_sign sign.Open (say_expr inner (say_sign sign.Close r))
said_paren inner line r = ap (λ (e : Expr). say_expr e r) (sym (expr.rolls-Paren inner line)) ∙ said (open_expr.Paren inner line) r

pub said_two : (o : Op) (left right : Expr) (r : List Lexeme) → say_expr (expr.Two o left right) r ≡ say_expr left (op_lexeme o ∷ say_expr right r)
said_two o left right r = ap (λ (e : Expr). say_expr e r) (sym (expr.rolls-Two o left right)) ∙ said (open_expr.Two o left right) r

-- ---- statements

-- a block
abbrev pub say_body : List Stmt → Spoken
say_body body = say_block (map say_stmt body)

-- a block of an `else`, where there is one
abbrev pub say_other : Option (List Stmt) → Spoken
say_other None r = r
say_other (Some body) r = say_word word.Else (say_body body r)

did : (d : Stmt-F Stmt) (r : List Lexeme) → say_stmt (roll-Stmt d) r ≡ say_stmt_step (map-Stmt Stmt Spoken say_stmt d) r
did d r = ap (λ (s : Spoken). s r) (fold-roll-Stmt Spoken say_stmt_step d)

pub said_let : (name : Named) (e : Expr) (r : List Lexeme)
    → say_stmt (stmt.Let name e) r ≡ say_word word.Let (say_name name (say_sign sign.Equal (say_expr e (say_sign sign.Semicolon r))))
said_let name e r = ap (λ (s : Stmt). say_stmt s r) (sym (stmt.rolls-Let name e)) ∙ did (open_stmt.Let name e) r

pub said_assign : (name : Named) (e : Expr) (r : List Lexeme)
    → say_stmt (stmt.Assign name e) r ≡ say_name name (say_sign sign.Equal (say_expr e (say_sign sign.Semicolon r)))
said_assign name e r = ap (λ (s : Stmt). say_stmt s r) (sym (stmt.rolls-Assign name e)) ∙ did (open_stmt.Assign name e) r

pub said_if : (test : Expr) (body : List Stmt) (other : Option (List Stmt)) (r : List Lexeme)
    → say_stmt (stmt.If test body other) r ≡ say_word word.If (say_expr test (say_body body (say_other other r)))
said_if test body None r = ap (λ (s : Stmt). say_stmt s r) (sym (stmt.rolls-If test body None)) ∙ did (open_stmt.If test body None) r
said_if test body (Some other) r = ap (λ (s : Stmt). say_stmt s r) (sym (stmt.rolls-If test body (Some other))) ∙ did (open_stmt.If test body (Some other)) r

pub said_get : (name table : Named) (key : List Expr) (found absent : List Stmt) (r : List Lexeme)
    → say_stmt (stmt.Get name table key found absent) r
    ≡ say_word word.Get (say_name name (say_word word.From (say_keyed table key (say_body found (say_word word.Else (say_body absent r))))))
said_get name table key found absent r = ap (λ (s : Stmt). say_stmt s r) (sym (stmt.rolls-Get name table key found absent)) ∙ did (open_stmt.Get name table key found absent) r

pub said_for : (name table column : Named) (low high : Option Expr) (body : List Stmt) (r : List Lexeme)
    → say_stmt (stmt.For name table column low high body) r
    ≡ say_word word.For (say_name name (say_word word.In (say_name table (say_word word.Span (say_word word.On (say_name column
    (say_end word.From low (say_end word.To high (say_body body r)))))))))
said_for name table column low high body r =
    ap (λ (s : Stmt). say_stmt s r) (sym (stmt.rolls-For name table column low high body)) ∙ did (open_stmt.For name table column low high body) r

pub said_insert : (table : Named) (values : List Expr) (r : List Lexeme)
    → say_stmt (stmt.Insert table values) r ≡ say_word word.Insert (say_name table (say_parens say_expr values (say_sign sign.Semicolon r)))
said_insert table values r = ap (λ (s : Stmt). say_stmt s r) (sym (stmt.rolls-Insert table values)) ∙ did (open_stmt.Insert table values) r

pub said_update : (table : Named) (key : List Expr) (changes : List Change) (r : List Lexeme)
    → say_stmt (stmt.Update table key changes) r
    ≡ say_word word.Update (say_keyed table key (say_word word.Set (say_listed say_change changes (say_sign sign.Semicolon r))))
said_update table key changes r = ap (λ (s : Stmt). say_stmt s r) (sym (stmt.rolls-Update table key changes)) ∙ did (open_stmt.Update table key changes) r

pub said_delete : (table : Named) (key : List Expr) (r : List Lexeme)
    → say_stmt (stmt.Delete table key) r ≡ say_word word.Delete (say_keyed table key (say_sign sign.Semicolon r))
said_delete table key r = ap (λ (s : Stmt). say_stmt s r) (sym (stmt.rolls-Delete table key)) ∙ did (open_stmt.Delete table key) r

pub said_fail : (text : List ℕ) (r : List Lexeme) → say_stmt (stmt.Fail text) r ≡ say_word word.Fail (lexeme.Text text ∷ say_sign sign.Semicolon r)
said_fail text r = ap (λ (s : Stmt). say_stmt s r) (sym (stmt.rolls-Fail text)) ∙ did (open_stmt.Fail text) r
