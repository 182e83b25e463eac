-- Lists of phrases.
use Rattle.std.specs.Prelude.{ℕ, zero, suc, List, [], ◌∷◌, ◌++◌, length, Bool}
use Rattle.proc_parse.specs.declared.token.Lexeme.{Lexeme}
use Rattle.proc_parse.specs.declared.token.Sign.TheVariants as sign
use Rattle.proc_parse.specs.Words.{is_sign}
use Rattle.proc_parse.specs.Reading.{Reader, ◌>>=◌, done, refuse, behind, before}

-- item ("," item)*, after some that were read; each takes a token at least, so as many steps as tokens are enough
abbrev pub list_from : {A : Type 0} → Reader A → ℕ → List A → Reader (List A)
list_from item zero items = refuse
list_from item (suc steps) items = item >>= λ x. behind (is_sign sign.Comma) (list_from item steps (items ++ x ∷ [])) (done (items ++ x ∷ []))

-- item ("," item)*
abbrev pub list_of : {A : Type 0} → Reader A → Reader (List A)
list_of item ts = list_from item (length ts) [] ts

-- item*, as long as a token passes the test, after some that were read
abbrev pub many_from : {A : Type 0} → (Lexeme → Bool) → Reader A → ℕ → List A → Reader (List A)
many_from test item zero items = done items
many_from test item (suc steps) items = before test (item >>= λ x. many_from test item steps (items ++ x ∷ [])) (done items)

-- item*, as long as a token passes the test
abbrev pub many_of : {A : Type 0} → (Lexeme → Bool) → Reader A → Reader (List A)
many_of test item ts = many_from test item (length ts) [] ts
