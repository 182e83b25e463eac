-- The grammar of statements.
use Rattle.std.specs.Prelude.{ℕ, zero, suc, List, [], ◌∷◌, Bool, not, Option, Some, None}
use Rattle.proc_syntax.specs.declared.tree.Change.{Change}
use Rattle.proc_syntax.specs.declared.tree.Named.{Named}
use Rattle.proc_syntax.specs.declared.tree.Expr.{Expr}
use Rattle.proc_syntax.specs.declared.tree.Stmt.{Stmt}
use Rattle.proc_syntax.specs.declared.tree.Stmt.TheVariants as stmt
use Rattle.proc_parse.specs.declared.token.Token.{Token}
use Rattle.proc_parse.specs.declared.token.Lexeme.{Lexeme}
use Rattle.proc_parse.specs.declared.token.Lexeme.TheVariants as lexeme
use Rattle.proc_parse.specs.declared.token.Word.{Word}
use Rattle.proc_parse.specs.declared.token.Word.TheVariants as word
use Rattle.proc_parse.specs.declared.token.Sign.TheVariants as sign
use Rattle.proc_parse.specs.declared.statements.Head.{Head}
use Rattle.proc_parse.specs.declared.statements.Head.TheVariants as head
use Rattle.proc_parse.specs.Words.{is_word, is_sign}
use Rattle.proc_parse.specs.Reading.{Reader, ◌>>=◌, ◌>>◌, done, refuse, behind, by_first, one}
use Rattle.proc_parse.specs.Lists.{list_of, many_of}
use Rattle.proc_parse.specs.Phrases.{the_word, the_sign, ended, in_parens, named, named_behind}
use Rattle.proc_parse.specs.Expressions.{expression}

-- keys = "(" expr ("," expr)* ")"
abbrev pub keys : Reader (List Expr)
keys = in_parens (list_of expression)

-- word name "key" keys
abbrev pub keyed : Word → Reader (Named × List Expr)
keyed w = named_behind w >>= λ table. the_word word.Key >> keys >>= λ key. done (table, key)

-- "=" expr
abbrev pub new_value : Reader Expr
new_value = the_sign sign.Equal >> expression

-- "let" name "=" expr ";"
abbrev pub let_statement : Reader Stmt
let_statement = named_behind word.Let >>= λ name. new_value >>= λ e. ended sign.Semicolon (stmt.Let name e)

-- name "=" expr ";"
abbrev pub assignment : Reader Stmt
assignment = named >>= λ name. new_value >>= λ e. ended sign.Semicolon (stmt.Assign name e)

abbrev pub some_block : Reader (List Stmt) → Reader (Option (List Stmt))
some_block block = block >>= λ body. done (Some body)

-- block ["else" block]
abbrev pub branches : Reader (List Stmt) → Reader (List Stmt × Option (List Stmt))
branches block = block >>= λ body. behind (is_word word.Else) (some_block block) (done None) >>= λ other. done (body, other)

-- "if" expr block ["else" block]
abbrev pub if_statement : Reader (List Stmt) → Reader Stmt
if_statement block = the_word word.If >> expression >>= λ test. branches block >>= λ both. done (stmt.If test both.0 both.1)

-- block "else" block
abbrev pub two_blocks : Reader (List Stmt) → Reader (List Stmt × List Stmt)
two_blocks block = block >>= λ found. the_word word.Else >> block >>= λ absent. done (found, absent)

-- "get" name "from" name "key" keys block "else" block
abbrev pub get_statement : Reader (List Stmt) → Reader Stmt
get_statement block = named_behind word.Get >>= λ name. keyed word.From >>= λ row. two_blocks block >>= λ both. done (stmt.Get name row.0 row.1 both.0 both.1)

abbrev pub some_expression : Reader (Option Expr)
some_expression = expression >>= λ e. done (Some e)

-- ["from" expr] or ["to" expr]
abbrev pub span_end : Word → Reader (Option Expr)
span_end w = behind (is_word w) some_expression (done None)

-- "span" "on" name ["from" expr] ["to" expr]
abbrev pub span : Reader (Named × Option Expr × Option Expr)
span = the_word word.Span >> named_behind word.On >>= λ column. span_end word.From >>= λ low. span_end word.To >>= λ high. done (column, low, high)

-- "for" name "in" name "span" "on" name ["from" expr] ["to" expr] block
abbrev pub for_statement : Reader (List Stmt) → Reader Stmt
for_statement block = named_behind word.For >>= λ name. named_behind word.In >>= λ table. span >>= λ span.
    block >>= λ body. done (stmt.For name table span.0 span.1 span.2 body)

-- "insert" name keys ";"
abbrev pub insert_statement : Reader Stmt
insert_statement = named_behind word.Insert >>= λ table. keys >>= λ values. ended sign.Semicolon (stmt.Insert table values)

-- name "=" expr
abbrev pub change : Reader Change
change = named >>= λ column. new_value >>= λ e. done (record { column = column; value = e })

-- "set" name "=" expr ("," name "=" expr)*
abbrev pub changes : Reader (List Change)
changes = the_word word.Set >> list_of change

-- "update" name "key" keys "set" name "=" expr ("," name "=" expr)* ";"
abbrev pub update_statement : Reader Stmt
update_statement = keyed word.Update >>= λ row. changes >>= λ changes. ended sign.Semicolon (stmt.Update row.0 row.1 changes)

-- "delete" name "key" keys ";"
abbrev pub delete_statement : Reader Stmt
delete_statement = keyed word.Delete >>= λ row. ended sign.Semicolon (stmt.Delete row.0 row.1)

abbrev pub text_of : Lexeme → Option (List ℕ)
text_of (lexeme.Text bytes) = Some bytes
text_of _ = None

abbrev pub text_rule : Reader (List ℕ)
text_rule = one (λ token. text_of token.lexeme)

-- "fail" text ";"
abbrev pub fail_statement : Reader Stmt
fail_statement = the_word word.Fail >> text_rule >>= λ text. ended sign.Semicolon (stmt.Fail text)

-- the statement that a token begins
abbrev pub head_of_word : Word → Head
head_of_word word.Let = head.Let
head_of_word word.If = head.If
head_of_word word.Get = head.Get
head_of_word word.For = head.For
head_of_word word.Insert = head.Insert
head_of_word word.Update = head.Update
head_of_word word.Delete = head.Delete
head_of_word word.Fail = head.Fail
head_of_word _ = head.Name

abbrev pub head_of_lexeme : Lexeme → Head
head_of_lexeme (lexeme.Word w) = head_of_word w
head_of_lexeme _ = head.Name

abbrev pub head_of : List Token → Head
head_of [] = head.Name
head_of (t ∷ ts) = head_of_lexeme t.lexeme

abbrev pub statement_by : Reader (List Stmt) → Head → Reader Stmt
statement_by block head.Let = let_statement
statement_by block head.If = if_statement block
statement_by block head.Get = get_statement block
statement_by block head.For = for_statement block
statement_by block head.Insert = insert_statement
statement_by block head.Update = update_statement
statement_by block head.Delete = delete_statement
statement_by block head.Fail = fail_statement
statement_by block head.Name = assignment

-- any of them, by its first word, or an assignment
abbrev pub statement_of : Reader (List Stmt) → Reader Stmt
statement_of block = by_first head_of (statement_by block)

-- up to the brace that closes the block
abbrev pub no_close : Lexeme → Bool
no_close l = not (is_sign sign.CloseBrace l)

-- block = "{" stmt* "}"
abbrev pub block_of : Reader Stmt → Reader (List Stmt)
block_of statement = the_sign sign.OpenBrace >> many_of no_close statement >>= ended sign.CloseBrace

-- where blocks may be so deep
abbrev pub block_at : ℕ → Reader (List Stmt)
block_at zero = refuse
block_at (suc more) = block_of (statement_of (block_at more))

-- at most 16 deep
abbrev pub block : Reader (List Stmt)
block = block_at 16
