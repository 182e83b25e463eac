-- Lists that have a greatest length.
use Rattle.std.specs.Prelude.{ℕ, zero, suc, List, [], ◌∷◌, ◌++◌, Bool}
use Rattle.proc_parse.specs.declared.token.Lexeme.{Lexeme}
use Rattle.proc_parse.specs.declared.token.Sign.TheVariants as sign
use Rattle.proc_parse.specs.declared.token.Word.TheVariants as word
use Rattle.proc_parse.specs.Words.{is_sign, is_word}
use Rattle.proc_parse.specs.Reading.{Reader, ◌>>=◌, behind, done, refuse}
use Rattle.query_text.specs.Keywords.{is_keyword}
use Rattle.query_text.specs.declared.keyword.Keyword.TheVariants as keyword
use Rattle.query_text.specs.declared.lists.Separator.{Separator}
use Rattle.query_text.specs.declared.lists.Separator.TheVariants as separator

-- whether a token stands between the elements of a list
abbrev pub separates : Separator → Lexeme → Bool
separates separator.Comma l = is_sign sign.Comma l
separates separator.And l = is_word word.And l
separates separator.Join l = is_keyword keyword.Join l

-- item (separator item)*, at most so many more, after some that were read
abbrev pub upto_from : {A : Type 0} → Separator → Reader A → ℕ → List A → Reader (List A)
upto_from by item zero items = refuse
upto_from by item (suc more) items = item >>= λ x. behind (separates by) (upto_from by item more (items ++ x ∷ [])) (done (items ++ x ∷ []))

-- item (separator item)*, at most so many; the one that would be one too many has no place
abbrev pub list_upto : {A : Type 0} → Separator → Reader A → ℕ → Reader (List A)
list_upto by item most = upto_from by item most []
