-- The tokens of a tree, before those that follow it.
use Rattle.std.specs.Prelude.{cond, Bool, true, false, List, [], ◌∷◌, Option, Some, None, map}
use Rattle.rel_base.specs.declared.value.Kind.{Kind}
use Rattle.rel_base.specs.declared.value.Kind.TheVariants as kind
use Rattle.rel_base.specs.declared.value.Value.{Value}
use Rattle.rel_base.specs.declared.value.Value.TheVariants as value
use Rattle.proc_syntax.specs.declared.tree.Op.{Op}
use Rattle.proc_syntax.specs.declared.tree.Op.TheVariants as op
use Rattle.proc_syntax.specs.declared.tree.Named.{Named}
use Rattle.proc_syntax.specs.declared.tree.ColumnText.{ColumnText}
use Rattle.proc_syntax.specs.declared.tree.TableText.{TableText}
use Rattle.proc_syntax.specs.declared.tree.Change.{Change}
use Rattle.proc_syntax.specs.declared.tree.Expr.{Expr, Expr-F, fold-Expr}
use Rattle.proc_syntax.specs.declared.tree.Expr.TheOpen as expr
use Rattle.proc_syntax.specs.declared.tree.Stmt.{Stmt, Stmt-F, fold-Stmt}
use Rattle.proc_syntax.specs.declared.tree.Stmt.TheOpen as stmt
use Rattle.proc_syntax.specs.declared.tree.ProcDef.{ProcDef}
use Rattle.proc_syntax.specs.declared.tree.App.{App}
use Rattle.proc_parse.specs.declared.token.Lexeme.{Lexeme}
use Rattle.proc_parse.specs.declared.token.Lexeme.TheVariants as lexeme
use Rattle.proc_parse.specs.declared.token.Word.{Word}
use Rattle.proc_parse.specs.declared.token.Word.TheVariants as word
use Rattle.proc_parse.specs.declared.token.Sign.{Sign}
use Rattle.proc_parse.specs.declared.token.Sign.TheVariants as sign

-- tokens before others
abbrev pub Spoken : Type 0
Spoken = List Lexeme → List Lexeme

-- nothing
abbrev pub silent : Spoken
silent r = r

abbrev pub say_word : Word → Spoken
say_word w r = lexeme.Word w ∷ r

abbrev pub say_sign : Sign → Spoken
say_sign s r = lexeme.Sign s ∷ r

abbrev pub say_name : Named → Spoken
say_name named r = lexeme.Name named.name ∷ r

-- ---- lists

-- each after a comma
abbrev pub say_more : {A : Type 0} → (A → Spoken) → List A → Spoken
say_more say [] r = r
say_more say (x ∷ xs) r = say_sign sign.Comma (say x (say_more say xs r))

abbrev pub say_listed : {A : Type 0} → (A → Spoken) → List A → Spoken
say_listed say [] r = r
say_listed say (x ∷ xs) r = say x (say_more say xs r)

abbrev pub say_parens : {A : Type 0} → (A → Spoken) → List A → Spoken
say_parens say xs r = say_sign sign.Open (say_listed say xs (say_sign sign.Close r))

-- one after another
abbrev pub say_all : {A : Type 0} → (A → Spoken) → List A → Spoken
say_all say [] r = r
say_all say (x ∷ xs) r = say x (say_all say xs r)

-- ---- expressions

abbrev pub op_lexeme : Op → Lexeme
op_lexeme op.Or = lexeme.Word word.Or
op_lexeme op.And = lexeme.Word word.And
op_lexeme op.Eq = lexeme.Sign sign.Equal
op_lexeme op.Ne = lexeme.Sign sign.NotEqual
op_lexeme op.Lt = lexeme.Sign sign.Less
op_lexeme op.Le = lexeme.Sign sign.LessEqual
op_lexeme op.Gt = lexeme.Sign sign.Greater
op_lexeme op.Ge = lexeme.Sign sign.GreaterEqual
op_lexeme op.Add = lexeme.Sign sign.Plus
op_lexeme op.Sub = lexeme.Sign sign.Minus
op_lexeme op.Join = lexeme.Sign sign.Join
op_lexeme op.Mul = lexeme.Sign sign.Star
op_lexeme op.Div = lexeme.Sign sign.Slash
op_lexeme op.Rem = lexeme.Sign sign.Percent

abbrev pub value_lexeme : Value → Lexeme
value_lexeme (value.Int n) = lexeme.Int n
value_lexeme (value.Text text) = lexeme.Text text
value_lexeme (value.Bool flag) = cond flag (lexeme.Word word.True) (lexeme.Word word.False)
value_lexeme (value.Bytes bytes) = lexeme.Bytes bytes

abbrev pub say_expr_step : Expr-F Spoken → Spoken
say_expr_step (expr.Value v line) r = value_lexeme v ∷ r
say_expr_step (expr.Var name) r = say_name name r
say_expr_step (expr.Field row column) r = say_name row (say_sign sign.Dot (say_name column r))
say_expr_step (expr.Now line) r = say_word word.Now r
say_expr_step (expr.Not inner line) r = say_word word.Not (inner r)
say_expr_step (expr.Neg inner line) r = say_sign sign.Minus (inner r)
say_expr_step (expr.Paren inner line) r = say_sign sign.Open (inner (say_sign sign.Close r))
say_expr_step (expr.Two o left right) r = left (op_lexeme o ∷ right r)

abbrev pub say_expr : Expr → Spoken
say_expr = fold-Expr Spoken say_expr_step

-- ---- statements

abbrev pub say_keyed : Named → List Expr → Spoken
say_keyed table key r = say_name table (say_word word.Key (say_parens say_expr key r))

abbrev pub say_change : Change → Spoken
say_change change r = say_name change.column (say_sign sign.Equal (say_expr change.value r))

abbrev pub say_end : Word → Option Expr → Spoken
say_end w None r = r
say_end w (Some e) r = say_word w (say_expr e r)

-- the tokens of statements, one after another
abbrev pub in_turn : List Spoken → Spoken
in_turn [] r = r
in_turn (say ∷ says) r = say (in_turn says r)

abbrev pub say_block : List Spoken → Spoken
say_block says r = say_sign sign.OpenBrace (in_turn says (say_sign sign.CloseBrace r))

abbrev pub say_else : Option (List Spoken) → Spoken
say_else None r = r
say_else (Some says) r = say_word word.Else (say_block says r)

abbrev pub say_stmt_step : Stmt-F Spoken → Spoken
say_stmt_step (stmt.Let name e) r = say_word word.Let (say_name name (say_sign sign.Equal (say_expr e (say_sign sign.Semicolon r))))
say_stmt_step (stmt.Assign name e) r = say_name name (say_sign sign.Equal (say_expr e (say_sign sign.Semicolon r)))
say_stmt_step (stmt.If test body other) r = say_word word.If (say_expr test (say_block body (say_else other r)))
say_stmt_step (stmt.Get name table key found absent) r =
    say_word word.Get (say_name name (say_word word.From (say_keyed table key (say_block found (say_word word.Else (say_block absent r))))))
say_stmt_step (stmt.For name table column low high body) r =
    say_word word.For (say_name name (say_word word.In (say_name table (say_word word.Span (say_word word.On (say_name column
    (say_end word.From low (say_end word.To high (say_block body r)))))))))
say_stmt_step (stmt.Insert table values) r = say_word word.Insert (say_name table (say_parens say_expr values (say_sign sign.Semicolon r)))
say_stmt_step (stmt.Update table key changes) r =
    say_word word.Update (say_keyed table key (say_word word.Set (say_listed say_change changes (say_sign sign.Semicolon r))))
say_stmt_step (stmt.Delete table key) r = say_word word.Delete (say_keyed table key (say_sign sign.Semicolon r))
say_stmt_step (stmt.Fail text) r = say_word word.Fail (lexeme.Text text ∷ say_sign sign.Semicolon r)

abbrev pub say_stmt : Stmt → Spoken
say_stmt = fold-Stmt Spoken say_stmt_step

-- ---- declarations

abbrev pub kind_word : Kind → Word
kind_word kind.Int = word.Int
kind_word kind.Text = word.Text
kind_word kind.Bool = word.Bool
kind_word kind.Bytes = word.Bytes

abbrev pub say_column : ColumnText → Spoken
say_column column r = say_name column.name (say_word (kind_word column.kind) r)

abbrev pub say_index : List Named → Spoken
say_index [] r = r
say_index (name ∷ names) r = say_word word.Index (say_parens say_name (name ∷ names) r)

abbrev pub say_table : TableText → Spoken
say_table t r =
    say_word word.Table (say_name t.name (say_parens say_column t.columns (say_word word.Key (say_parens say_name t.key
    (say_index t.index (say_sign sign.Semicolon r))))))

abbrev pub say_procedure : ProcDef → Spoken
say_procedure p r = say_word word.Proc (say_name p.name (say_parens say_column p.params (say_block (map say_stmt p.body) r)))

abbrev pub say_exact : Bool → Spoken
say_exact false r = r
say_exact true r = say_word word.Isolation (say_word word.Exact (say_sign sign.Semicolon r))

abbrev pub say_app : App → Spoken
say_app app r = say_exact app.exact (say_all say_table app.tables (say_all say_procedure app.procs (lexeme.End ∷ r)))
