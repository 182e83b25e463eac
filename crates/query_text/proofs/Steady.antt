-- Readers that decide by the tokens that they have seen, and go past no end of a text.
use Rattle.std.proofs.Common.{◌≡◌, ℕ, zero, suc, List, [], ◌∷◌, ◌++◌, Bool, false, Option, None, refl}
use Rattle.proc_parse.specs.declared.token.Token.{Token}
use Rattle.proc_parse.specs.declared.token.Lexeme.{Lexeme}
use Rattle.proc_parse.specs.declared.token.Lexeme.TheVariants as lexeme
use Rattle.proc_parse.specs.declared.token.Sign.{Sign}
use Rattle.proc_parse.specs.declared.token.Word.{Word}
use Rattle.proc_parse.specs.Phrases.{the_sign, the_word}
use Rattle.proc_parse.specs.Reading.{Reader, ◌>>=◌, ◌>>◌, before, behind, by_first, done, expect, one, refuse}
use Rattle.proc_parse.specs.Words.{is_sign, is_word}
use Rattle.proc_parse.proofs.Halts.{Halts, halts_before, halts_behind, halts_done, halts_expect, halts_first, halts_one, halts_refuse, halts_then}
use Rattle.proc_parse.proofs.Local.{IsLocal, local_before, local_behind, local_done, local_expect, local_first, local_one, local_refuse, local_then}
use Rattle.query_text.specs.Grammar.{the_keyword}
use Rattle.query_text.specs.Keywords.{is_keyword}
use Rattle.query_text.specs.Lists.{list_upto, separates, upto_from}
use Rattle.query_text.specs.declared.keyword.Keyword.{Keyword}
use Rattle.query_text.specs.declared.lists.Separator.{Separator}
use Rattle.query_text.specs.declared.lists.Separator.TheVariants as separator

pub record IsSteady {A : Type 0} (p : Reader A) : Type 0 where
  pub local : IsLocal p
  pub halts : Halts p

pub steady_done : {A : Type 0} → (x : A) → IsSteady (done x)
steady_done x = record { local = local_done x; halts = halts_done x }

pub steady_refuse : (A : Type 0) → IsSteady (refuse {A = A})
steady_refuse A = record { local = local_refuse A; halts = halts_refuse A }

pub steady_then : {A B : Type 0} → (p : Reader A) (f : A → Reader B) → IsSteady p → ((x : A) → IsSteady (f x)) → IsSteady (p >>= f)
steady_then p f sp sf = record { local = local_then p f sp.local (λ x. (sf x).local); halts = halts_then p f sp.halts (λ x. (sf x).halts) }

pub steady_behind : {A : Type 0} → (test : Lexeme → Bool) → test lexeme.End ≡ false → test lexeme.Bad ≡ false → (go stay : Reader A) → IsSteady go → IsSteady stay → IsSteady (behind test go stay)
steady_behind test e b go stay sg ss = record { local = local_behind test go stay sg.local ss.local; halts = halts_behind test e b go stay sg.halts ss.halts }

pub steady_before : {A : Type 0} → (test : Lexeme → Bool) (go stay : Reader A) → IsSteady go → IsSteady stay → IsSteady (before test go stay)
steady_before test go stay sg ss = record { local = local_before test go stay sg.local ss.local; halts = halts_before test go stay sg.halts ss.halts }

pub steady_first : {A H : Type 0} → (head : List Token → H) (go : H → Reader A) → ((t : Token) (xs ys : List Token) → head (t ∷ xs) ≡ head (t ∷ ys)) → ((h : H) → IsSteady (go h)) → IsSteady (by_first head go)
steady_first head go same sg = record { local = local_first head go same (λ h. (sg h).local); halts = halts_first head go (λ h. (sg h).halts) }

pub steady_expect : (test : Lexeme → Bool) → test lexeme.End ≡ false → test lexeme.Bad ≡ false → IsSteady (expect test)
steady_expect test e b = record { local = local_expect test; halts = halts_expect test e b }

pub steady_one : {A : Type 0} → (meaning : Token → Option A) → ((t : Token) → meaning (record t { lexeme = lexeme.End }) ≡ None)
    → ((t : Token) → meaning (record t { lexeme = lexeme.Bad }) ≡ None) → IsSteady (one meaning)
steady_one meaning e b = record { local = local_one meaning; halts = halts_one meaning e b }

pub steady_word : {A : Type 0} → (w : Word) (next : Reader A) → IsSteady next → IsSteady (the_word w >> next)
steady_word w next s = steady_then (the_word w) (λ _. next) (steady_expect (is_word w) refl refl) (λ _. s)

pub steady_sign : {A : Type 0} → (w : Sign) (next : Reader A) → IsSteady next → IsSteady (the_sign w >> next)
steady_sign w next s = steady_then (the_sign w) (λ _. next) (steady_expect (is_sign w) refl refl) (λ _. s)

pub steady_keyword : {A : Type 0} → (w : Keyword) (next : Reader A) → IsSteady next → IsSteady (the_keyword w >> next)
steady_keyword w next s = steady_then (the_keyword w) (λ _. next) (steady_expect (is_keyword w) refl refl) (λ _. s)

no_end : (by : Separator) → separates by lexeme.End ≡ false
no_end separator.Comma = refl
no_end separator.And = refl
no_end separator.Join = refl

no_bad : (by : Separator) → separates by lexeme.Bad ≡ false
no_bad separator.Comma = refl
no_bad separator.And = refl
no_bad separator.Join = refl

steady_from : {A : Type 0} → (by : Separator) (element : Reader A) → IsSteady element → (more : ℕ) (items : List A) → IsSteady (upto_from by element more items)
steady_from {A = A} by element s zero items = steady_refuse (List A)
steady_from by element s (suc more) items =
    steady_then element _ s (λ x. steady_behind (separates by) (no_end by) (no_bad by) _ _ (steady_from by element s more (items ++ x ∷ [])) (steady_done (items ++ x ∷ [])))

pub steady_upto : {A : Type 0} → (by : Separator) (element : Reader A) → IsSteady element → (most : ℕ) → IsSteady (list_upto by element most)
steady_upto by element s most = steady_from by element s most []
