-- The grammar of applications.
use Rattle.std.specs.Prelude.{ℕ, List, [], Bool, true, false, Option, Some, None, Ok, Err}
use Rattle.proc_syntax.specs.declared.tree.Named.{Named}
use Rattle.proc_syntax.specs.declared.tree.ColumnText.{ColumnText}
use Rattle.proc_syntax.specs.declared.tree.TableText.{TableText}
use Rattle.proc_syntax.specs.declared.tree.Stmt.{Stmt}
use Rattle.proc_syntax.specs.declared.tree.ProcDef.{ProcDef}
use Rattle.proc_syntax.specs.declared.tree.App.{App}
use Rattle.proc_parse.specs.declared.token.Lexeme.{Lexeme}
use Rattle.proc_parse.specs.declared.token.Lexeme.TheVariants as lexeme
use Rattle.proc_parse.specs.declared.token.Word.TheVariants as word
use Rattle.proc_parse.specs.declared.token.Sign.TheVariants as sign
use Rattle.proc_parse.specs.Tokens.{tokens_of}
use Rattle.proc_parse.specs.Words.{is_word, is_sign}
use Rattle.proc_parse.specs.Reading.{Read, Reader, ◌>>=◌, ◌>>◌, done, behind, expect}
use Rattle.proc_parse.specs.Lists.{list_of, many_of}
use Rattle.proc_parse.specs.Phrases.{the_word, the_sign, ended, named_behind, column, columns, names}
use Rattle.proc_parse.specs.Statements.{block, block_at}

-- "key" "(" name ("," name)* ")" ["index" "(" name ("," name)* ")"] ";"
abbrev pub table_end : Reader (List Named × List Named)
table_end = the_word word.Key >> names >>= λ key. behind (is_word word.Index) names (done []) >>= λ index. ended sign.Semicolon (key, index)

-- table = "table" name "(" col ("," col)* ")" "key" "(" name ("," name)* ")" ["index" "(" name ("," name)* ")"] ";"
abbrev pub table : Reader TableText
table = named_behind word.Table >>= λ name. columns >>= λ columns. table_end >>= λ end.
    done (record { name = name; columns = columns; key = end.0; index = end.1 })

-- col ("," col)* ")"
abbrev pub more_parameters : Reader (List ColumnText)
more_parameters = list_of column >>= ended sign.Close

-- "(" [col ("," col)*] ")"
abbrev pub parameters : Reader (List ColumnText)
parameters = the_sign sign.Open >> behind (is_sign sign.Close) (done []) more_parameters

-- proc = "proc" name "(" [col ("," col)*] ")" block
abbrev pub procedure_of : Reader (List Stmt) → Reader ProcDef
procedure_of block = named_behind word.Proc >>= λ name. parameters >>= λ params. block >>= λ body.
    done (record { name = name; params = params; body = body })

abbrev pub procedure : Reader ProcDef
procedure = procedure_of block

abbrev pub is_end : Lexeme → Bool
is_end lexeme.End = true
is_end _ = false

-- ["isolation" "exact" ";"]
abbrev pub declares_exact : Reader Bool
declares_exact = behind (is_word word.Isolation) (the_word word.Exact >> ended sign.Semicolon true) (done false)

-- app = ["isolation" "exact" ";"] table* proc*, and nothing more
abbrev pub application_of : Reader ProcDef → Reader App
application_of procedure = declares_exact >>= λ exact. many_of (is_word word.Table) table >>= λ tables.
    many_of (is_word word.Proc) procedure >>= λ procs. expect is_end >> done (record { exact = exact; tables = tables; procs = procs })

abbrev pub application : Reader App
application = application_of procedure

-- the same where blocks are at most 17 deep
abbrev pub deeper_application : Reader App
deeper_application = application_of (procedure_of (block_at 17))

abbrev pub tree_of : {A : Type 0} → Read A → Option A
tree_of (Ok x) = Some x.0
tree_of (Err rest) = None

-- the application that a text is, if it is one
abbrev pub app_of : List ℕ → Option App
app_of text = tree_of (application (tokens_of text))
