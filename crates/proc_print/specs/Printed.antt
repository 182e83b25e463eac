-- The text of a tree: one declaration or statement to a line, each block indented by two spaces, the parentheses of the tree and no others.
use Rattle.std.specs.Prelude.{ℕ, Bool, cond, List, [], ◌∷◌, ◌++◌, Option, Some, None, map, flat_map, codes}
use Rattle.std.specs.Fmt.{signed_decimal}
use Rattle.literals.specs.Text.{text_literal}
use Rattle.literals.specs.Bytes.{bytes_literal}
use Rattle.rel_base.specs.declared.value.Kind.{Kind}
use Rattle.rel_base.specs.declared.value.Kind.TheVariants as kind
use Rattle.rel_base.specs.declared.value.Value.{Value}
use Rattle.rel_base.specs.declared.value.Value.TheVariants as value
use Rattle.proc_syntax.specs.declared.tree.Op.{Op}
use Rattle.proc_syntax.specs.declared.tree.Op.TheVariants as op
use Rattle.proc_syntax.specs.declared.tree.Named.{Named}
use Rattle.proc_syntax.specs.declared.tree.ColumnText.{ColumnText}
use Rattle.proc_syntax.specs.declared.tree.TableText.{TableText}
use Rattle.proc_syntax.specs.declared.tree.Change.{Change}
use Rattle.proc_syntax.specs.declared.tree.Expr.{Expr, Expr-F, fold-Expr}
use Rattle.proc_syntax.specs.declared.tree.Expr.TheOpen as expr
use Rattle.proc_syntax.specs.declared.tree.Stmt.{Stmt, Stmt-F, fold-Stmt}
use Rattle.proc_syntax.specs.declared.tree.Stmt.TheOpen as stmt
use Rattle.proc_syntax.specs.declared.tree.ProcDef.{ProcDef}
use Rattle.proc_syntax.specs.declared.tree.App.{App}

-- ---- lists

-- texts, a comma after each but the last
abbrev pub listed : {A : Type 0} → (A → List ℕ) → List A → List ℕ
listed text [] = []
listed text (x ∷ xs) = text x ++ flat_map (λ y. codes ", " ++ text y) xs

abbrev pub in_parens : {A : Type 0} → (A → List ℕ) → List A → List ℕ
in_parens text xs = codes "(" ++ listed text xs ++ codes ")"

-- ---- expressions

-- an operator, with a space on either side
abbrev pub op_text : Op → List ℕ
op_text op.Or = codes " or "
op_text op.And = codes " and "
op_text op.Eq = codes " = "
op_text op.Ne = codes " != "
op_text op.Lt = codes " < "
op_text op.Le = codes " <= "
op_text op.Gt = codes " > "
op_text op.Ge = codes " >= "
op_text op.Add = codes " + "
op_text op.Sub = codes " - "
op_text op.Join = codes " ++ "
op_text op.Mul = codes " * "
op_text op.Div = codes " / "
op_text op.Rem = codes " % "

abbrev pub value_text : Value → List ℕ
value_text (value.Int n) = signed_decimal n
value_text (value.Text text) = text_literal text
value_text (value.Bool flag) = cond flag (codes "true") (codes "false")
value_text (value.Bytes bytes) = bytes_literal bytes

-- an expression, from the texts of its parts
abbrev pub expr_step : Expr-F (List ℕ) → List ℕ
expr_step (expr.Value v line) = value_text v
expr_step (expr.Var name) = name.name
expr_step (expr.Field row column) = row.name ++ codes "." ++ column.name
expr_step (expr.Now line) = codes "now"
expr_step (expr.Not inner line) = codes "not " ++ inner
expr_step (expr.Neg inner line) = codes "-" ++ inner
expr_step (expr.Paren inner line) = codes "(" ++ inner ++ codes ")"
expr_step (expr.Two o left right) = left ++ op_text o ++ right

abbrev pub expr_text : Expr → List ℕ
expr_text = fold-Expr (List ℕ) expr_step

-- ---- statements

-- a statement on a line, after a margin
abbrev pub line_text : List ℕ → (List ℕ → List ℕ) → List ℕ
line_text margin stmt = margin ++ stmt margin ++ codes "\n"

-- a block: its statements, two spaces further in than its last brace
abbrev pub block_text : List (List ℕ → List ℕ) → List ℕ → List ℕ
block_text stmts margin = codes "{\n" ++ flat_map (line_text (margin ++ codes "  ")) stmts ++ margin ++ codes "}"

-- the block of an `else`, where there is one
abbrev pub else_text : Option (List (List ℕ → List ℕ)) → List ℕ → List ℕ
else_text None margin = []
else_text (Some stmts) margin = codes " else " ++ block_text stmts margin

-- an end of a span after its word, where it is given
abbrev pub end_text : List ℕ → Option Expr → List ℕ
end_text word None = []
end_text word (Some e) = word ++ expr_text e

abbrev pub change_text : Change → List ℕ
change_text change = change.column.name ++ codes " = " ++ expr_text change.value

-- a table and the key of one of its rows
abbrev pub keyed_text : Named → List Expr → List ℕ
keyed_text table key = table.name ++ codes " key " ++ in_parens expr_text key

-- `insert` of values
unfoldable pub insert_text : Named → List Expr → List ℕ
insert_text table values = codes "insert " ++ table.name ++ codes " " ++ in_parens expr_text values ++ codes ";"

-- `update` of columns
unfoldable pub update_text : Named → List Expr → List Change → List ℕ
update_text table key changes = codes "update " ++ keyed_text table key ++ codes " set " ++ listed change_text changes ++ codes ";"

-- `delete` of a row
unfoldable pub delete_text : Named → List Expr → List ℕ
delete_text table key = codes "delete " ++ keyed_text table key ++ codes ";"

-- `fail` with a text
unfoldable pub fail_text : List ℕ → List ℕ
fail_text text = codes "fail " ++ text_literal text ++ codes ";"

-- the names of a `for`
unfoldable pub span_text : Named → Named → Named → List ℕ
span_text name table column = codes "for " ++ name.name ++ codes " in " ++ table.name ++ codes " span on " ++ column.name

-- the ends of its span
unfoldable pub ends_text : Option Expr → Option Expr → List ℕ
ends_text low high = end_text (codes " from ") low ++ end_text (codes " to ") high ++ codes " "

-- a statement whose blocks close after a margin, from the texts of the statements in them
abbrev pub stmt_step : Stmt-F (List ℕ → List ℕ) → List ℕ → List ℕ
stmt_step (stmt.Let name e) margin = codes "let " ++ name.name ++ codes " = " ++ expr_text e ++ codes ";"
stmt_step (stmt.Assign name e) margin = name.name ++ codes " = " ++ expr_text e ++ codes ";"
stmt_step (stmt.If test body other) margin = codes "if " ++ expr_text test ++ codes " " ++ block_text body margin ++ else_text other margin
stmt_step (stmt.Get name table key found absent) margin =
    codes "get " ++ name.name ++ codes " from " ++ keyed_text table key ++ codes " " ++ block_text found margin ++ codes " else " ++ block_text absent margin
stmt_step (stmt.For name table column low high body) margin =
    span_text name table column ++ ends_text low high ++ block_text body margin
stmt_step (stmt.Insert table values) margin = insert_text table values
stmt_step (stmt.Update table key changes) margin = update_text table key changes
stmt_step (stmt.Delete table key) margin = delete_text table key
stmt_step (stmt.Fail text) margin = fail_text text

abbrev pub stmt_text : Stmt → List ℕ → List ℕ
stmt_text = fold-Stmt (List ℕ → List ℕ) stmt_step

-- ---- declarations

abbrev pub kind_text : Kind → List ℕ
kind_text kind.Int = codes " int"
kind_text kind.Text = codes " text"
kind_text kind.Bool = codes " bool"
kind_text kind.Bytes = codes " bytes"

abbrev pub column_text : ColumnText → List ℕ
column_text column = column.name.name ++ kind_text column.kind

abbrev pub named_text : Named → List ℕ
named_text named = named.name

-- the indexed columns, where there are any
abbrev pub index_text : List Named → List ℕ
index_text [] = []
index_text (name ∷ names) = codes " index " ++ in_parens named_text (name ∷ names)

abbrev pub table_text : TableText → List ℕ
table_text t = codes "table " ++ t.name.name ++ codes " " ++ in_parens column_text t.columns ++ codes " key " ++ in_parens named_text t.key ++ index_text t.index ++ codes ";\n"

abbrev pub procedure_text : ProcDef → List ℕ
procedure_text p = codes "proc " ++ p.name.name ++ in_parens column_text p.params ++ codes " " ++ block_text (map stmt_text p.body) [] ++ codes "\n"

-- the declaration of exact isolation, where it is made
abbrev pub isolation_text : Bool → List ℕ
isolation_text exact = cond exact (codes "isolation exact;\n") []

-- an application
abbrev pub printed : App → List ℕ
printed app = isolation_text app.exact ++ flat_map table_text app.tables ++ flat_map procedure_text app.procs
