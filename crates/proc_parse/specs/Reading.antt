-- What it is to read a phrase at the start of some tokens, and the ways to put readers together.
use Rattle.std.specs.Prelude.{◌≡◌, ◌<◌, ◌≤◌, List, [], ◌∷◌, length, Bool, false, cond, Option, Some, None, Result, Ok, Err}
use denote.Bor.{Bor}
use Rattle.proc_parse.specs.declared.token.Token.{Token}
use Rattle.proc_parse.specs.declared.token.Lexeme.{Lexeme}
use Rattle.proc_parse.specs.declared.phrase.Stop.{Stop}
use Rattle.proc_parse.specs.declared.phrase.Stop.TheVariants as stop

-- a tree and the tokens after it, or the tokens from the first on that has no place there
abbrev pub Read : Type 0 → Type 0
Read A = Result (A × List Token) (List Token)

abbrev pub Reader : Type 0 → Type 0
Reader A = List Token → Read A

-- nothing more is read
abbrev pub done : {A : Type 0} → A → Reader A
done x ts = Ok (x, ts)

-- the next token has no place here
abbrev pub refuse : {A : Type 0} → Reader A
refuse ts = Err ts

abbrev pub on_read : {A B : Type 0} → Read A → (A → Reader B) → Read B
on_read (Ok x) f = f x.0 x.1
on_read (Err rest) f = Err rest

-- one phrase, and then another, which may depend on the first
infixr 10 ◌>>=◌
abbrev pub ◌>>=◌ : {A B : Type 0} → Reader A → (A → Reader B) → Reader B
(p >>= f) ts = on_read (p ts) f

-- one phrase, and then another, which is what counts
infixr 10 ◌>>◌
abbrev pub ◌>>◌ : {A B : Type 0} → Reader A → Reader B → Reader B
(p >> q) ts = on_read (p ts) (λ _. q)

-- the tokens after the first, if that passes the test
abbrev pub past : (Lexeme → Bool) → List Token → Option (List Token)
past test [] = None
past test (t ∷ ts) = cond (test t.lexeme) (Some ts) None

abbrev pub if_past : {A : Type 0} → Option (List Token) → Reader A → Read A → Read A
if_past (Some ts) go stay = go ts
if_past None go stay = stay

-- past a token that passes the test the one, and else the other
abbrev pub behind : {A : Type 0} → (Lexeme → Bool) → Reader A → Reader A → Reader A
behind test go stay ts = if_past (past test ts) go (stay ts)

-- whether the first token passes the test
abbrev pub begins : (Lexeme → Bool) → List Token → Bool
begins test [] = false
begins test (t ∷ ts) = test t.lexeme

-- the one where the first token passes the test, and else the other
abbrev pub before : {A : Type 0} → (Lexeme → Bool) → Reader A → Reader A → Reader A
before test go stay ts = cond (begins test ts) (go ts) (stay ts)

-- one of several, by what the first token is
abbrev pub by_first : {A H : Type 0} → (List Token → H) → (H → Reader A) → Reader A
by_first head go ts = go (head ts) ts

-- a token that passes the test
abbrev pub expect : (Lexeme → Bool) → Reader (Unit {0})
expect test = behind test (done tt) refuse

abbrev pub if_found : {A : Type 0} → Option A → Token → List Token → Read A
if_found (Some x) t ts = Ok (x, ts)
if_found None t ts = Err (t ∷ ts)

-- a token with a meaning
abbrev pub one : {A : Type 0} → (Token → Option A) → Reader A
one meaning [] = Err []
one meaning (t ∷ ts) = if_found (meaning t) t ts

-- each phrase takes a token at least, and none comes back
abbrev pub IsShorter : {A : Type 0} → List Token → Read A → Type 0
IsShorter ts (Ok x) = length x.1 < length ts
IsShorter ts (Err rest) = length rest ≤ length ts

pub record Shortens {A : Type 0} (rule : Reader A) : Type 0 where
  pub shorter : (ts : List Token) → IsShorter ts (rule ts)

-- What a function answers is what is read, unless memory ran out.
abbrev pub Gives : {A : Type 0} → Result (A × Bor (List Token)) Stop → Read A → Type 0
Gives (Ok x) meant = meant ≡ Ok (x.0, x.1.now)
Gives (Err stop.NoMemory) meant = Unit {0}
Gives (Err (stop.At rest)) meant = meant ≡ Err rest.now

-- the same of a function that takes no memory, and answers the tokens after the phrase alone
abbrev pub GoesOn : Result (Bor (List Token)) Stop → Read (Unit {0}) → Type 0
GoesOn (Ok rest) meant = meant ≡ Ok (tt, rest.now)
GoesOn (Err stop.NoMemory) meant = ⊥
GoesOn (Err (stop.At rest)) meant = meant ≡ Err rest.now
