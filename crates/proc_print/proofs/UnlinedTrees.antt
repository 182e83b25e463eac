-- Each kind of tree without its line numbers, by its parts without theirs.
use Rattle.std.proofs.Common.{◌≡◌, ℕ, List, map, Option, Some, None, sym, ap, ◌∙◌}
use Rattle.std.specs.Option.{option_map}
use Rattle.rel_base.specs.declared.value.Value.{Value}
use Rattle.proc_syntax.specs.declared.tree.Op.{Op}
use Rattle.proc_syntax.specs.declared.tree.Named.{Named}
use Rattle.proc_syntax.specs.declared.tree.Change.{Change}
use Rattle.proc_syntax.specs.declared.tree.Expr.{Expr, Expr-F, fold-roll-Expr, map-Expr, roll-Expr}
use Rattle.proc_syntax.specs.declared.tree.Expr.TheOpen as open_expr
use Rattle.proc_syntax.specs.declared.tree.Expr.TheVariants as expr
use Rattle.proc_syntax.specs.declared.tree.Stmt.{Stmt, Stmt-F, fold-roll-Stmt, map-Stmt, roll-Stmt}
use Rattle.proc_syntax.specs.declared.tree.Stmt.TheOpen as open_stmt
use Rattle.proc_syntax.specs.declared.tree.Stmt.TheVariants as stmt
use Rattle.proc_print.specs.Unlined.{unlined_name, unlined_expr_step, unlined_expr, unlined_change, unlined_stmt_step, unlined_stmt}

rolled : (d : Expr-F Expr) → unlined_expr (roll-Expr d) ≡ unlined_expr_step (map-Expr Expr Expr unlined_expr d)
rolled d = fold-roll-Expr Expr unlined_expr_step d

pub unlined_now : (line : ℕ) → unlined_expr (expr.Now line) ≡ expr.Now 0
unlined_now line = ap unlined_expr (sym (expr.rolls-Now line)) ∙ rolled (open_expr.Now line)

pub unlined_value : (v : Value) (line : ℕ) → unlined_expr (expr.Value v line) ≡ expr.Value v 0
unlined_value v line = ap unlined_expr (sym (expr.rolls-Value v line)) ∙ rolled (open_expr.Value v line)

pub unlined_var : (name : Named) → unlined_expr (expr.Var name) ≡ expr.Var (unlined_name name)
unlined_var name = ap unlined_expr (sym (expr.rolls-Var name)) ∙ rolled (open_expr.Var name)

pub unlined_field : (row column : Named) → unlined_expr (expr.Field row column) ≡ expr.Field (unlined_name row) (unlined_name column)
unlined_field row column = ap unlined_expr (sym (expr.rolls-Field row column)) ∙ rolled (open_expr.Field row column)

pub unlined_not : (inner : Expr) (line : ℕ) → unlined_expr (expr.Not inner line) ≡ expr.Not (unlined_expr inner) 0
unlined_not inner line = ap unlined_expr (sym (expr.rolls-Not inner line)) ∙ rolled (open_expr.Not inner line)

pub unlined_neg : (inner : Expr) (line : ℕ) → unlined_expr (expr.Neg inner line) ≡ expr.Neg (unlined_expr inner) 0
unlined_neg inner line = ap unlined_expr (sym (expr.rolls-Neg inner line)) ∙ rolled (open_expr.Neg inner line)

pub unlined_paren : (inner : Expr) (line : ℕ) → unlined_expr (expr.Paren inner line) ≡ expr.Paren (unlined_expr inner) 0
unlined_paren inner line = ap unlined_expr (sym (expr.rolls-Paren inner line)) ∙ rolled (open_expr.Paren inner line)

pub unlined_two : (o : Op) (left right : Expr) → unlined_expr (expr.Two o left right) ≡ expr.Two o (unlined_expr left) (unlined_expr right)
unlined_two o left right = ap unlined_expr (sym (expr.rolls-Two o left right)) ∙ rolled (open_expr.Two o left right)

-- ---- statements

did : (d : Stmt-F Stmt) → unlined_stmt (roll-Stmt d) ≡ unlined_stmt_step (map-Stmt Stmt Stmt unlined_stmt d)
did d = fold-roll-Stmt Stmt unlined_stmt_step d

pub unlined_let : (name : Named) (e : Expr) → unlined_stmt (stmt.Let name e) ≡ stmt.Let (unlined_name name) (unlined_expr e)
unlined_let name e = ap unlined_stmt (sym (stmt.rolls-Let name e)) ∙ did (open_stmt.Let name e)

pub unlined_assign : (name : Named) (e : Expr) → unlined_stmt (stmt.Assign name e) ≡ stmt.Assign (unlined_name name) (unlined_expr e)
unlined_assign name e = ap unlined_stmt (sym (stmt.rolls-Assign name e)) ∙ did (open_stmt.Assign name e)

-- a block of an `else`, where there is one
abbrev pub unlined_other : Option (List Stmt) → Option (List Stmt)
unlined_other None = None
unlined_other (Some body) = Some (map unlined_stmt body)

pub unlined_if : (test : Expr) (body : List Stmt) (other : Option (List Stmt))
    → unlined_stmt (stmt.If test body other) ≡ stmt.If (unlined_expr test) (map unlined_stmt body) (unlined_other other)
unlined_if test body None = ap unlined_stmt (sym (stmt.rolls-If test body None)) ∙ did (open_stmt.If test body None)
unlined_if test body (Some other) = ap unlined_stmt (sym (stmt.rolls-If test body (Some other))) ∙ did (open_stmt.If test body (Some other))

pub unlined_get : (name table : Named) (key : List Expr) (found absent : List Stmt)
    → unlined_stmt (stmt.Get name table key found absent) ≡ stmt.Get (unlined_name name) (unlined_name table) (map unlined_expr key) (map unlined_stmt found) (map unlined_stmt absent)
unlined_get name table key found absent = ap unlined_stmt (sym (stmt.rolls-Get name table key found absent)) ∙ did (open_stmt.Get name table key found absent)

pub unlined_for : (name table column : Named) (low high : Option Expr) (body : List Stmt)
    → unlined_stmt (stmt.For name table column low high body)
    ≡ stmt.For (unlined_name name) (unlined_name table) (unlined_name column) (option_map unlined_expr low) (option_map unlined_expr high) (map unlined_stmt body)
unlined_for name table column low high body = ap unlined_stmt (sym (stmt.rolls-For name table column low high body)) ∙ did (open_stmt.For name table column low high body)

pub unlined_insert : (table : Named) (values : List Expr) → unlined_stmt (stmt.Insert table values) ≡ stmt.Insert (unlined_name table) (map unlined_expr values)
unlined_insert table values = ap unlined_stmt (sym (stmt.rolls-Insert table values)) ∙ did (open_stmt.Insert table values)

pub unlined_update : (table : Named) (key : List Expr) (changes : List Change)
    → unlined_stmt (stmt.Update table key changes) ≡ stmt.Update (unlined_name table) (map unlined_expr key) (map unlined_change changes)
unlined_update table key changes = ap unlined_stmt (sym (stmt.rolls-Update table key changes)) ∙ did (open_stmt.Update table key changes)

pub unlined_delete : (table : Named) (key : List Expr) → unlined_stmt (stmt.Delete table key) ≡ stmt.Delete (unlined_name table) (map unlined_expr key)
unlined_delete table key = ap unlined_stmt (sym (stmt.rolls-Delete table key)) ∙ did (open_stmt.Delete table key)

pub unlined_fail : (text : List ℕ) → unlined_stmt (stmt.Fail text) ≡ stmt.Fail text
unlined_fail text = ap unlined_stmt (sym (stmt.rolls-Fail text)) ∙ did (open_stmt.Fail text)
