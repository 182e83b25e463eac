-- The smallest phrases: words and signs, names, kinds and columns.
use Rattle.std.specs.Prelude.{ℕ, List, Option, Some, None}
use Rattle.rel_base.specs.declared.value.Kind.{Kind}
use Rattle.rel_base.specs.declared.value.Kind.TheVariants as kind
use Rattle.proc_syntax.specs.declared.tree.Named.{Named}
use Rattle.proc_syntax.specs.declared.tree.ColumnText.{ColumnText}
use Rattle.proc_parse.specs.declared.token.Lexeme.{Lexeme}
use Rattle.proc_parse.specs.declared.token.Lexeme.TheVariants as lexeme
use Rattle.proc_parse.specs.declared.token.Word.{Word}
use Rattle.proc_parse.specs.declared.token.Word.TheVariants as word
use Rattle.proc_parse.specs.declared.token.Sign.{Sign}
use Rattle.proc_parse.specs.declared.token.Sign.TheVariants as sign
use Rattle.proc_parse.specs.Words.{is_word, is_sign}
use Rattle.proc_parse.specs.Reading.{Reader, ◌>>=◌, ◌>>◌, done, expect, one}
use Rattle.proc_parse.specs.Lists.{list_of}

abbrev pub the_word : Word → Reader (Unit {0})
the_word w = expect (is_word w)

abbrev pub the_sign : Sign → Reader (Unit {0})
the_sign s = expect (is_sign s)

-- the sign that ends a phrase, of which all else was read
abbrev pub ended : {A : Type 0} → Sign → A → Reader A
ended end phrase = the_sign end >> done phrase

-- "(" phrase ")"
abbrev pub in_parens : {A : Type 0} → Reader A → Reader A
in_parens phrase = the_sign sign.Open >> phrase >>= ended sign.Close

abbrev pub name_of : Lexeme → ℕ → Option Named
name_of (lexeme.Name bytes) line = Some (record { name = bytes; line = line })
name_of _ line = None

-- a name, which is no reserved word, and its line
abbrev pub named : Reader Named
named = one (λ token. name_of token.lexeme token.line)

-- a word, and a name after it
abbrev pub named_behind : Word → Reader Named
named_behind w = the_word w >> named

abbrev pub kind_of_word : Word → Option Kind
kind_of_word word.Int = Some kind.Int
kind_of_word word.Text = Some kind.Text
kind_of_word word.Bool = Some kind.Bool
kind_of_word word.Bytes = Some kind.Bytes
kind_of_word _ = None

abbrev pub kind_of_lexeme : Lexeme → Option Kind
kind_of_lexeme (lexeme.Word w) = kind_of_word w
kind_of_lexeme _ = None

-- kind = "int" | "text" | "bool" | "bytes"
abbrev pub kind_rule : Reader Kind
kind_rule = one (λ token. kind_of_lexeme token.lexeme)

-- col = name kind
abbrev pub column : Reader ColumnText
column = named >>= λ name. kind_rule >>= λ kind. done (record { name = name; kind = kind })

abbrev pub columns : Reader (List ColumnText)
columns = in_parens (list_of column)

abbrev pub names : Reader (List Named)
names = in_parens (list_of named)
