-- Where a text is not a query.
use Rattle.std.specs.Prelude.{◌≡◌, ◌≤◌, ℕ, List, [], ◌∷◌, ◌++◌, length, Result, Ok, Err}
use Rattle.proc_parse.specs.declared.token.Token.{Token}
use Rattle.proc_parse.specs.Tokens.{tokens_of}
use Rattle.query_plan.specs.declared.fault.AskFault.{AskFault}
use Rattle.query_plan.specs.declared.fault.AskFault.TheVariants as fault
use Rattle.query_text.specs.Grammar.{most_text_bytes, query, query_upto}
use Rattle.query_text.specs.declared.tree.SelectText.{SelectText}

-- a token of these stands at the place, and whatever follows it, the grammar stops at it: no continuation of what stands before it allows it
pub record IsRefused (ts : List Token) (line col : ℕ) : Type 0 where
  pub before : List Token
  pub token : Token
  pub after : List Token
  pub split : ts ≡ before ++ (token ∷ after)
  pub has_line : token.line ≡ line
  pub has_col : token.col ≡ col
  pub blocked : (any : List Token) → query (before ++ (token ∷ any)) ≡ Err (token ∷ any)

-- tokens go on to a query, but that each of its lists may have one element more: so where there is one too many, its first token is the
-- first that nothing allows, and not the comma, `and` or `join` before it
pub record IsViable (before : List Token) : Type 0 where
  pub more : List Token
  pub select : SelectText
  pub read : query_upto 5 17 (before ++ more) ≡ Ok (select, [])

-- a token of these stands at the place, and those before it go on to such a query
pub record IsAfterViable (ts : List Token) (line col : ℕ) : Type 0 where
  pub before : List Token
  pub token : Token
  pub after : List Token
  pub split : ts ≡ before ++ (token ∷ after)
  pub has_line : token.line ≡ line
  pub has_col : token.col ≡ col
  pub viable : IsViable before

-- what is said of the place of a text that is not too long and not in the grammar
abbrev pub IfSyntax : {A : Type 0} → Result A AskFault → (ℕ → ℕ → Type 0) → Type 0
IfSyntax (Err (fault.Syntax line col)) p = p line col
IfSyntax result p = Unit {0}

abbrev pub RefusedIn : List ℕ → ℕ → ℕ → Type 0
RefusedIn text line col = length text ≤ most_text_bytes → IsRefused (tokens_of text) line col

abbrev pub ViableIn : List ℕ → ℕ → ℕ → Type 0
ViableIn text line col = length text ≤ most_text_bytes → IsAfterViable (tokens_of text) line col
