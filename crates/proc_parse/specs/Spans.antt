-- The tokens of a text by their places: those of the lexer, each by its form.
use Rattle.std.specs.Prelude.{◌≡◌, ◌<◌, ◌≤◌, ℕ, List, [], ◌∷◌, ◌++◌, Bool, true, false, Result, Ok, Err}
use Rattle.proc_parse.specs.Tokens.{tokens_of}
use Rattle.proc_parse.specs.declared.lexer.Position.{Position}
use Rattle.proc_parse.specs.declared.spans.Step.{Step}
use Rattle.proc_parse.specs.declared.spans.Step.TheVariants as step
use Rattle.proc_parse.specs.declared.spans.Token.{Token}
use Rattle.proc_parse.specs.declared.spans.TokenFault.{TokenFault}
use Rattle.proc_parse.specs.declared.spans.TokenFault.TheVariants as fault
use Rattle.proc_parse.specs.declared.spans.TokenKind.TheVariants as kind
use Rattle.proc_parse.specs.declared.token.Lexeme.{Lexeme}
use Rattle.proc_parse.specs.declared.token.Lexeme.TheVariants as lexeme
use Rattle.proc_parse.specs.declared.token.Token.{Token as Lexed}

-- what a lexeme adds to the tokens
abbrev pub step_of : Lexeme → Step
step_of (lexeme.Word w) = step.Token kind.Word
step_of (lexeme.Name n) = step.Token kind.Name
step_of (lexeme.Int n) = step.Token kind.Int
step_of (lexeme.Text t) = step.Token kind.Text
step_of (lexeme.Bytes b) = step.Token kind.Bytes
step_of (lexeme.Sign s) = step.Token kind.Sign
step_of lexeme.Bad = step.Bad
step_of lexeme.End = step.End

-- tokens, or the place of bytes that are none
abbrev pub Spanned : Type 0
Spanned = Result (List Token) Position

-- tokens before those that follow
abbrev pub before : List Token → Spanned → Spanned
before tokens (Ok more) = Ok (tokens ++ more)
before tokens (Err place) = Err place

abbrev pub put_step : Step → Lexed → Spanned → Spanned
put_step (step.Token kind) t after = before (record { kind = kind; line = t.line; col = t.col; start = t.start; end = t.end } ∷ []) after
put_step step.End t after = Ok []
put_step step.Bad t after = Err (record { line = t.line; col = t.col })

-- those of the lexer, up to the end of the text or to bytes that are no token
abbrev pub spans_among : List Lexed → Spanned
spans_among [] = Ok []
spans_among (t ∷ ts) = put_step (step_of t.lexeme) t (spans_among ts)

abbrev pub spans_of : List ℕ → Spanned
spans_of text = spans_among (tokens_of text)

-- What a function answers is what is meant, unless memory ran out.
abbrev pub Spans : Result (List Token) TokenFault → Spanned → Type 0
Spans (Ok tokens) meant = meant ≡ Ok tokens
Spans (Err fault.NoMemory) meant = Unit {0}
Spans (Err (fault.Bad line col)) meant = meant ≡ Err (record { line = line; col = col })

-- tokens take bytes, and each begins at the end of the one before or later
abbrev pub AreApart : ℕ → List Token → Type 0
AreApart from [] = Unit {0}
AreApart from (t ∷ ts) = (from ≤ t.start) × (t.start < t.end) × AreApart t.end ts

-- tokens and what a step adds are new tokens and what follows, or those that end the text, or its fault
abbrev pub Puts : Result Bool TokenFault → Step → Lexed → (old new : List Token) → Type 0
Puts (Ok false) step t old new = (after : Spanned) → before old (put_step step t after) ≡ before new after
Puts (Ok true) step t old new = (after : Spanned) → before old (put_step step t after) ≡ Ok new
Puts (Err fault.NoMemory) step t old new = Unit {0}
Puts (Err (fault.Bad line col)) step t old new = (after : Spanned) → before old (put_step step t after) ≡ Err (record { line = line; col = col })
