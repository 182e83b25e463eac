-- Where a text is not in the grammar.
use Rattle.std.specs.Prelude.{◌≡◌, ℕ, List, [], ◌∷◌, ◌++◌, Option, Some, None, Result, Ok, Err}
use Rattle.proc_syntax.specs.declared.tree.App.{App}
use Rattle.proc_parse.specs.declared.token.Token.{Token}
use Rattle.proc_parse.specs.declared.lexer.Position.{Position}
use Rattle.proc_parse.specs.declared.parser.ParseFault.{ParseFault}
use Rattle.proc_parse.specs.declared.parser.ParseFault.TheVariants as fault
use Rattle.proc_parse.specs.Tokens.{start, tokens_of}
use Rattle.proc_parse.specs.Reading.{Read}
use Rattle.proc_parse.specs.Grammar.{application, deeper_application}

-- the place of the first of some tokens
abbrev pub position_of : List Token → Position
position_of [] = start
position_of (t ∷ ts) = record { line = t.line; col = t.col }

abbrev pub fault_in : {A : Type 0} → Read A → Option Position
fault_in (Ok x) = None
fault_in (Err rest) = Some (position_of rest)

-- the place of the first token that has none in an application
abbrev pub fault_at : List ℕ → Option Position
fault_at text = fault_in (application (tokens_of text))

-- a token of these stands at the place, and whatever follows it, the grammar stops at it: no continuation of what stands before it allows it
pub record IsRefused (ts : List Token) (line col : ℕ) : Type 0 where
  pub front : List Token
  pub token : Token
  pub behind : List Token
  pub split : ts ≡ front ++ (token ∷ behind)
  pub has_line : token.line ≡ line
  pub has_col : token.col ≡ col
  pub blocked : (any : List Token) → application (front ++ (token ∷ any)) ≡ Err (token ∷ any)

-- tokens are the prefix of an application, but that its blocks may be one deeper: so where a block is too deep, the brace that opens it is the first
-- token that nothing allows, and not the word before it
pub record IsViable (front : List Token) : Type 0 where
  pub more : List Token
  pub app : App
  pub read : deeper_application (front ++ more) ≡ Ok (app, [])

-- a token of these stands at the place, after such a prefix
pub record IsBehindViable (ts : List Token) (line col : ℕ) : Type 0 where
  pub front : List Token
  pub token : Token
  pub behind : List Token
  pub split : ts ≡ front ++ (token ∷ behind)
  pub has_line : token.line ≡ line
  pub has_col : token.col ≡ col
  pub viable : IsViable front

-- what is said of a place that is answered
abbrev pub IfSyntax : Result App ParseFault → (ℕ → ℕ → Type 0) → Type 0
IfSyntax (Ok app) p = Unit {0}
IfSyntax (Err fault.NoMemory) p = Unit {0}
IfSyntax (Err (fault.Syntax line col)) p = p line col
