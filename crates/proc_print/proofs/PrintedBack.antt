-- What is printed of an application that was read is read back.
use Rattle.std.proofs.Common.{◌≡◌, ℕ, suc, List, [], ◌∷◌, length, map, Option, Some, Ok, Err, refl, sym, ap, subst, ◌∙◌}
use Rattle.std.specs.Option.{option_map}
use Rattle.std.proofs.lemmas.List.{append-nil}
use Rattle.proc_syntax.specs.declared.tree.App.{App}
use Rattle.proc_parse.specs.declared.token.Token.{Token}
use Rattle.proc_parse.specs.declared.token.Lexeme.{Lexeme}
use Rattle.proc_parse.specs.declared.token.Lexeme.TheVariants as lexeme
use Rattle.proc_parse.specs.Tokens.{tokens_of}
use Rattle.proc_parse.specs.Reading.{Read}
use Rattle.proc_parse.specs.Grammar.{application, tree_of, app_of}
use Rattle.proc_print.specs.Printed.{printed}
use Rattle.proc_print.specs.Unlined.{unlined}
use Rattle.proc_print.specs.Laws.{lexemes, IsReadAs, PrintsKeepTokens, PrintsAreRead, ComesBack, PrintsComeBack, PrintsAgree}
use Rattle.proc_print.proofs.Bare.{bare, bared, read_bare}
use Rattle.proc_print.proofs.BareRules.{bare_application}
use Rattle.proc_print.proofs.Spoken.{silent, say_app}
use Rattle.proc_print.proofs.Tells.{Told}
use Rattle.proc_print.proofs.TellsRules.{tells_application}
use Rattle.proc_print.proofs.Lexed.{lex, lexemes_of, AllFine}
use Rattle.proc_print.proofs.Fine.{all_fine}
use Rattle.proc_print.proofs.LexedTrees.{app_closed}

-- an application that was read, and the tokens after it
record WasRead (ts : List Token) (app : App) : Type 0 where
  rest : List Token
  read : application ts ≡ Ok (app, rest)

was_read : (ts : List Token) (r : Read App) (app : App) → application ts ≡ r → tree_of r ≡ Some app → WasRead ts app
was_read ts (Ok x) app e found =
    let same : x.0 ≡ app = cc in
    record { rest = x.1; read = e ∙ ap (λ app. Ok (app, x.1)) same }
was_read ts (Err rest) app e found = absurd cc

-- the tokens of a text that was read, and of what is printed of it
record SameTokens (text : List ℕ) (app : App) : Type 0 where
  read : application (tokens_of text) ≡ Ok (app, [])
  same : lexemes (tokens_of (printed app)) ≡ lexemes (tokens_of text)

none_left : (ts : List Token) → lexemes ts ≡ [] → ts ≡ []
none_left [] e = refl
none_left (t ∷ ts) e = absurd cc

same_tokens : (text : List ℕ) (app : App) → app_of text ≡ Some app → SameTokens text app
same_tokens text app found =
    let was = was_read (tokens_of text) (application (tokens_of text)) app refl found in
    let told : lexemes (tokens_of text) ≡ say_app app (lexemes was.rest) = subst (Told silent say_app (tokens_of text)) was.read (tells_application.told (tokens_of text)) in
    let fine : AllFine (say_app app (lexemes was.rest)) = subst AllFine (sym (lexemes_of text) ∙ told) (all_fine (suc (length text)) text) in
    let none : lexemes was.rest ≡ [] = ((app_closed app).tail (lexeme.End ∷ lexemes was.rest) fine).1 refl in
    record {
      read = was.read ∙ ap (λ rest. Ok (app, rest)) (none_left was.rest none);
      same =
          lexemes_of (printed app) ∙ ap lex (sym (append-nil (printed app))) ∙ (app_closed app).text [] (lexeme.End ∷ lexemes was.rest) fine
          ∙ ap (say_app app) (sym none) ∙ sym told;
    }

-- ---- without places

abbrev unplaced : Lexeme → Token
unplaced l = record { lexeme = l; line = 0; col = 0; start = 0; end = 0 }

bared_lexemes : (ts : List Token) → bared ts ≡ map unplaced (lexemes ts)
bared_lexemes [] = refl
bared_lexemes (t ∷ ts) = ap (λ ts. bare t ∷ ts) (bared_lexemes ts)

none_bared : (ts : List Token) → bared ts ≡ [] → ts ≡ []
none_bared [] e = refl
none_bared (t ∷ ts) e = absurd cc

abbrev answer : App × List Token → Read App
answer x = Ok x

answer_is : (x y : App × List Token) → answer x ≡ answer y → x ≡ y
answer_is x y e = cc

read_as : (app : App) (r : Read App) → read_bare unlined r ≡ Ok (unlined app, []) → IsReadAs app r
read_as app (Ok x) e =
    let same = answer_is (unlined x.0, bared x.1) (unlined app, []) e in
    (ap (λ (y : App × List Token). y.0) same, none_bared x.1 (ap (λ (y : App × List Token). y.1) same))
read_as app (Err rest) e = absurd cc

pub prints_keep_tokens : PrintsKeepTokens
prints_keep_tokens text app found = (same_tokens text app found).same

pub prints_are_read : PrintsAreRead
prints_are_read text app found =
    let tokens = same_tokens text app found in
    let same : bared (tokens_of (printed app)) ≡ bared (tokens_of text) =
    bared_lexemes (tokens_of (printed app)) ∙ ap (λ ls. map unplaced ls) tokens.same ∙ sym (bared_lexemes (tokens_of text)) in
    read_as app (application (tokens_of (printed app)))
    (sym (bare_application.same (tokens_of (printed app))) ∙ ap application same ∙ bare_application.same (tokens_of text) ∙ ap (read_bare unlined) tokens.read)

abbrev some : App → Option App
some app = Some app

some_is : (a b : App) → some a ≡ some b → a ≡ b
some_is a b e = cc

come_back : (app : App) (r : Read App) → IsReadAs app r → option_map unlined (tree_of r) ≡ Some (unlined app)
come_back app (Ok x) h = ap Some h.0
come_back app (Err rest) h = absurd h

pub prints_come_back : PrintsComeBack
prints_come_back app text found = come_back app (application (tokens_of (printed app))) (prints_are_read text app found)

pub prints_agree : PrintsAgree
prints_agree text app again found read =
    some_is (unlined again) (unlined app) (ap (option_map unlined) (sym read) ∙ prints_come_back app text found)

-- the same of the bytes that were printed
pub bytes_come_back : (app : App) (bytes : List ℕ) → bytes ≡ printed app → ComesBack app bytes
bytes_come_back app bytes same = subst (ComesBack app) (sym same) (prints_come_back app)
