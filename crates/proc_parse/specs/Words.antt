-- The reserved words and the signs as a text has them, and tests of tokens.
use Rattle.std.specs.Prelude.{ℕ, List, [], ◌∷◌, codes, Bool, false}
use denote.Enum.Bare.{sameb}
use Rattle.proc_parse.specs.contracts.token.Word as a_word
use Rattle.proc_parse.specs.contracts.token.Sign as a_sign
use Rattle.proc_parse.specs.declared.token.Word.{Word}
use Rattle.proc_parse.specs.declared.token.Word.TheVariants as word
use Rattle.proc_parse.specs.declared.token.Sign.{Sign}
use Rattle.proc_parse.specs.declared.token.Sign.TheVariants as sign
use Rattle.proc_parse.specs.declared.token.Lexeme.{Lexeme}
use Rattle.proc_parse.specs.declared.token.Lexeme.TheVariants as lexeme

abbrev pub spelling : Word → List ℕ
spelling word.Table = codes "table"
spelling word.Key = codes "key"
spelling word.Index = codes "index"
spelling word.Int = codes "int"
spelling word.Text = codes "text"
spelling word.Bool = codes "bool"
spelling word.Bytes = codes "bytes"
spelling word.Proc = codes "proc"
spelling word.Let = codes "let"
spelling word.If = codes "if"
spelling word.Else = codes "else"
spelling word.Get = codes "get"
spelling word.From = codes "from"
spelling word.For = codes "for"
spelling word.In = codes "in"
spelling word.Span = codes "span"
spelling word.On = codes "on"
spelling word.To = codes "to"
spelling word.Insert = codes "insert"
spelling word.Update = codes "update"
spelling word.Set = codes "set"
spelling word.Delete = codes "delete"
spelling word.Fail = codes "fail"
spelling word.True = codes "true"
spelling word.False = codes "false"
spelling word.And = codes "and"
spelling word.Or = codes "or"
spelling word.Not = codes "not"
spelling word.X = codes "x"
spelling word.Now = codes "now"
spelling word.Isolation = codes "isolation"
spelling word.Exact = codes "exact"

-- the reserved words; the last three have no use yet
abbrev pub words : List Word
words =
    word.Table ∷ word.Key ∷ word.Index ∷ word.Int ∷ word.Text ∷ word.Bool ∷ word.Bytes ∷ word.Proc ∷
    word.Let ∷ word.If ∷ word.Else ∷ word.Get ∷ word.From ∷ word.For ∷ word.In ∷ word.Span ∷
    word.On ∷ word.To ∷ word.Insert ∷ word.Update ∷ word.Set ∷ word.Delete ∷ word.Fail ∷ word.True ∷
    word.False ∷ word.And ∷ word.Or ∷ word.Not ∷ word.X ∷ word.Now ∷ word.Isolation ∷ word.Exact ∷ []

abbrev pub mark : Sign → List ℕ
mark sign.Open = codes "("
mark sign.Close = codes ")"
mark sign.OpenBrace = codes "{"
mark sign.CloseBrace = codes "}"
mark sign.Comma = codes ","
mark sign.Semicolon = codes ";"
mark sign.Dot = codes "."
mark sign.Equal = codes "="
mark sign.NotEqual = codes "!="
mark sign.Less = codes "<"
mark sign.LessEqual = codes "<="
mark sign.Greater = codes ">"
mark sign.GreaterEqual = codes ">="
mark sign.Plus = codes "+"
mark sign.Join = codes "++"
mark sign.Minus = codes "-"
mark sign.Star = codes "*"
mark sign.Slash = codes "/"
mark sign.Percent = codes "%"

-- the signs, those of two bytes before those of one
abbrev pub signs : List Sign
signs =
    sign.NotEqual ∷ sign.LessEqual ∷ sign.GreaterEqual ∷ sign.Join ∷ sign.Open ∷ sign.Close ∷ sign.OpenBrace ∷ sign.CloseBrace ∷
    sign.Comma ∷ sign.Semicolon ∷ sign.Dot ∷ sign.Equal ∷ sign.Less ∷ sign.Greater ∷ sign.Plus ∷ sign.Minus ∷
    sign.Star ∷ sign.Slash ∷ sign.Percent ∷ []

-- whether it is this word
abbrev pub is_word : Word → Lexeme → Bool
is_word w (lexeme.Word v) = sameb a_word.the_type v w
is_word w _ = false

-- whether it is this sign
abbrev pub is_sign : Sign → Lexeme → Bool
is_sign s (lexeme.Sign t) = sameb a_sign.the_type t s
is_sign s _ = false
