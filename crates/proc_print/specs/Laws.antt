-- What is printed is read back.
use Rattle.std.specs.Prelude.{◌≡◌, ℕ, List, [], map, Some, Ok, Err}
use Rattle.std.specs.Option.{option_map}
use Rattle.proc_syntax.specs.declared.tree.App.{App}
use Rattle.proc_parse.specs.declared.token.Token.{Token}
use Rattle.proc_parse.specs.declared.token.Lexeme.{Lexeme}
use Rattle.proc_parse.specs.Reading.{Read}
use Rattle.proc_parse.specs.Tokens.{tokens_of}
use Rattle.proc_parse.specs.Grammar.{application, app_of}
use Rattle.proc_print.specs.Printed.{printed}
use Rattle.proc_print.specs.Unlined.{unlined}

-- tokens without their places
abbrev pub lexemes : List Token → List Lexeme
lexemes tokens = map (λ (token : Token). token.lexeme) tokens

-- what is printed of an application has the tokens of the text that the application was read from, at other places
abbrev pub PrintsKeepTokens : Type 0
PrintsKeepTokens = (text : List ℕ) (app : App) → app_of text ≡ Some app → lexemes (tokens_of (printed app)) ≡ lexemes (tokens_of text)

-- this application was read, in all but line numbers, and no token is left over
abbrev pub IsReadAs : App → Read App → Type 0
IsReadAs app (Ok x) = (unlined x.0 ≡ unlined app) × (x.1 ≡ [])
IsReadAs app (Err rest) = ⊥

-- what is printed of an application that was read from a text is read as that application, to its end
abbrev pub PrintsAreRead : Type 0
PrintsAreRead = (text : List ℕ) (app : App) → app_of text ≡ Some app → IsReadAs app (application (tokens_of (printed app)))

-- an application that was read from any text is read from these bytes too, in all but line numbers
abbrev pub ComesBack : App → List ℕ → Type 0
ComesBack app bytes = (text : List ℕ) → app_of text ≡ Some app → option_map unlined (app_of bytes) ≡ Some (unlined app)

-- so what is printed is the text of an application, which is the printed one in all but line numbers
abbrev pub PrintsComeBack : Type 0
PrintsComeBack = (app : App) → ComesBack app (printed app)

-- and whatever is read from it agrees with what was printed
abbrev pub PrintsAgree : Type 0
PrintsAgree = (text : List ℕ) (app again : App) → app_of text ≡ Some app → app_of (printed app) ≡ Some again → unlined again ≡ unlined app

-- and is printed as the same bytes
abbrev pub PrintsAreStable : Type 0
PrintsAreStable = (text : List ℕ) (app again : App) → app_of text ≡ Some app → app_of (printed app) ≡ Some again → printed again ≡ printed app
