-- The words that a query takes from names.
use Rattle.std.specs.Prelude.{ℕ, List, [], ◌∷◌, codes, Bool, false, cond, nat_eq, Option, Some, None}
use Rattle.std.specs.Cmp.Lexicographic.{pointwise}
use denote.Enum.Bare.{sameb}
use Rattle.proc_parse.specs.declared.token.Lexeme.{Lexeme}
use Rattle.proc_parse.specs.declared.token.Lexeme.TheVariants as lexeme
use Rattle.query_text.specs.contracts.keyword.Keyword as a_keyword
use Rattle.query_text.specs.declared.keyword.Keyword.{Keyword}
use Rattle.query_text.specs.declared.keyword.Keyword.TheVariants as keyword

abbrev pub spelling : Keyword → List ℕ
spelling keyword.As = codes "as"
spelling keyword.Join = codes "join"
spelling keyword.Where = codes "where"
spelling keyword.Group = codes "group"
spelling keyword.Order = codes "order"
spelling keyword.By = codes "by"
spelling keyword.Select = codes "select"
spelling keyword.Count = codes "count"
spelling keyword.Sum = codes "sum"
spelling keyword.Min = codes "min"
spelling keyword.Max = codes "max"
spelling keyword.Block = codes "block"
spelling keyword.Pos = codes "pos"

abbrev pub keywords : List Keyword
keywords =
    keyword.As ∷ keyword.Join ∷ keyword.Where ∷ keyword.Group ∷ keyword.Order ∷ keyword.By ∷ keyword.Select ∷ keyword.Count ∷
    keyword.Sum ∷ keyword.Min ∷ keyword.Max ∷ keyword.Block ∷ keyword.Pos ∷ []

-- the word of these that is spelled so
abbrev pub keyword_in : List Keyword → List ℕ → Option Keyword
keyword_in [] bytes = None
keyword_in (w ∷ ws) bytes = cond (pointwise nat_eq (spelling w) bytes) (Some w) (keyword_in ws bytes)

-- the word that a token is
abbrev pub keyword_of : Lexeme → Option Keyword
keyword_of (lexeme.Name bytes) = keyword_in keywords bytes
keyword_of _ = None

abbrev pub is_own : Keyword → Option Keyword → Bool
is_own w None = false
is_own w (Some own) = sameb a_keyword.the_type own w

-- whether a token is this word
abbrev pub is_keyword : Keyword → Lexeme → Bool
is_keyword w l = is_own w (keyword_of l)
