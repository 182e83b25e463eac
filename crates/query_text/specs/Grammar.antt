-- The grammar of queries.
use Rattle.std.specs.Prelude.{ℕ, List, [], ◌∷◌, cond, Option, Some, None, neg_ℤ}
use Rattle.rel_base.specs.declared.value.Value.{Value}
use Rattle.proc_parse.specs.declared.lexer.Position.{Position}
use Rattle.proc_parse.specs.declared.token.Lexeme.{Lexeme}
use Rattle.proc_parse.specs.declared.token.Lexeme.TheVariants as lexeme
use Rattle.proc_parse.specs.declared.token.Sign.{Sign}
use Rattle.proc_parse.specs.declared.token.Sign.TheVariants as sign
use Rattle.proc_parse.specs.declared.token.Token.{Token}
use Rattle.proc_parse.specs.declared.token.Word.TheVariants as word
use Rattle.proc_parse.specs.Expressions.{is_name, value_of}
use Rattle.proc_parse.specs.Grammar.{is_end}
use Rattle.proc_parse.specs.Phrases.{ended, the_sign, the_word}
use Rattle.proc_parse.specs.Reading.{Reader, ◌>>=◌, ◌>>◌, before, behind, by_first, done, expect, one}
use Rattle.proc_parse.specs.Words.{is_sign}
use Rattle.query_plan.specs.Answer.{int_value}
use Rattle.query_plan.specs.declared.select.Relation.{Relation}
use Rattle.query_plan.specs.declared.select.Relation.TheVariants as relations
use Rattle.query_text.specs.Keywords.{is_keyword, keyword_of}
use Rattle.query_text.specs.Lists.{list_upto}
use Rattle.query_text.specs.declared.items.ItemHead.{ItemHead}
use Rattle.query_text.specs.declared.items.ItemHead.TheVariants as head
use Rattle.query_text.specs.declared.keyword.Keyword.{Keyword}
use Rattle.query_text.specs.declared.keyword.Keyword.TheVariants as keyword
use Rattle.query_text.specs.declared.lists.Separator.TheVariants as separator
use Rattle.query_text.specs.declared.tree.ColText.{ColText}
use Rattle.query_text.specs.declared.tree.ComparisonText.{ComparisonText}
use Rattle.query_text.specs.declared.tree.FieldText.{FieldText}
use Rattle.query_text.specs.declared.tree.FieldText.TheVariants as field_text
use Rattle.query_text.specs.declared.tree.ItemText.{ItemText}
use Rattle.query_text.specs.declared.tree.ItemText.TheVariants as item_text
use Rattle.query_text.specs.declared.tree.NameText.{NameText}
use Rattle.query_text.specs.declared.tree.NumberText.{NumberText}
use Rattle.query_text.specs.declared.tree.SelectText.{SelectText}
use Rattle.query_text.specs.declared.tree.SelectedText.{SelectedText}
use Rattle.query_text.specs.declared.tree.SelectedText.TheVariants as selected
use Rattle.query_text.specs.declared.tree.SideText.{SideText}
use Rattle.query_text.specs.declared.tree.SideText.TheVariants as side_text
use Rattle.query_text.specs.declared.tree.SourceText.{SourceText}

-- the most bytes of a text
abbrev pub most_text_bytes : ℕ
most_text_bytes = 4096

abbrev pub place_of : Token → Position
place_of token = record { line = token.line; col = token.col }

abbrev pub the_keyword : Keyword → Reader (Unit {0})
the_keyword w = expect (is_keyword w)

-- ---- names

abbrev pub name_unless : Option Keyword → List ℕ → Option (List ℕ)
name_unless None bytes = Some bytes
name_unless (Some w) bytes = None

-- the name that a token is, where no word of queries is spelled so
abbrev pub name_of : Lexeme → Option (List ℕ)
name_of (lexeme.Name bytes) = name_unless (keyword_of (lexeme.Name bytes)) bytes
name_of _ = None

abbrev pub named_at : Option (List ℕ) → Position → Option NameText
named_at None at = None
named_at (Some bytes) at = Some (record { name = bytes; at = at })

-- name
abbrev pub named : Reader NameText
named = one (λ token. named_at (name_of token.lexeme) (place_of token))

-- src = name "as" name
abbrev pub source : Reader SourceText
source = named >>= λ table. the_keyword keyword.As >> named >>= λ name. done (record { table = table; name = name })

-- ---- fields

abbrev pub field_by : Option Keyword → List ℕ → Position → Option FieldText
field_by None bytes at = Some (field_text.Column (record { name = bytes; at = at }))
field_by (Some keyword.Block) bytes at = Some field_text.Block
field_by (Some keyword.Pos) bytes at = Some field_text.Pos
field_by (Some w) bytes at = None

abbrev pub field_of : Lexeme → Position → Option FieldText
field_of (lexeme.Name bytes) at = field_by (keyword_of (lexeme.Name bytes)) bytes at
field_of _ at = None

-- name | "block" | "pos"
abbrev pub field : Reader FieldText
field = one (λ token. field_of token.lexeme (place_of token))

-- col = name "." (name | "block" | "pos")
abbrev pub col : Reader ColText
col = named >>= λ source. the_sign sign.Dot >> field >>= λ field. done (record { source = source; field = field })

-- ---- comparisons

abbrev pub relation_of_sign : Sign → Option Relation
relation_of_sign sign.Equal = Some relations.Equal
relation_of_sign sign.NotEqual = Some relations.NotEqual
relation_of_sign sign.Less = Some relations.Less
relation_of_sign sign.LessEqual = Some relations.LessOrEqual
relation_of_sign sign.Greater = Some relations.Greater
relation_of_sign sign.GreaterEqual = Some relations.GreaterOrEqual
relation_of_sign _ = None

abbrev pub relation_of : Lexeme → Option Relation
relation_of (lexeme.Sign s) = relation_of_sign s
relation_of _ = None

-- "=" | "!=" | "<" | "<=" | ">" | ">="
abbrev pub relation : Reader Relation
relation = one (λ token. relation_of token.lexeme)

abbrev pub given_at : Option Value → Position → Option SideText
given_at None at = None
given_at (Some v) at = Some (side_text.Given v at)

abbrev pub negated_of : Lexeme → Option Value
negated_of (lexeme.Int n) = int_value (neg_ℤ n)
negated_of _ = None

abbrev pub minus : Reader Position
minus = one (λ token. cond (is_sign sign.Minus token.lexeme) (Some (place_of token)) None)

abbrev pub given_side : Position → Reader SideText
given_side at = one (λ token. given_at (negated_of token.lexeme) at)

-- "-" int
abbrev pub minus_side : Reader SideText
minus_side = minus >>= given_side

-- int | text | "true" | "false" | bytes
abbrev pub literal_side : Reader SideText
literal_side = one (λ token. given_at (value_of token.lexeme) (place_of token))

-- col | value
abbrev pub side : Reader SideText
side = before is_name (col >>= λ col. done (side_text.Field col)) (before (is_sign sign.Minus) minus_side literal_side)

-- cmp = col ("=" | "!=" | "<" | "<=" | ">" | ">=") (col | value)
abbrev pub comparison : Reader ComparisonText
comparison = col >>= λ left. relation >>= λ relation. side >>= λ right. done (record { left = left; relation = relation; right = right })

-- ---- items

abbrev pub head_of_word : Option Keyword → ItemHead
head_of_word (Some keyword.Count) = head.Count
head_of_word (Some keyword.Sum) = head.Sum
head_of_word (Some keyword.Min) = head.Min
head_of_word (Some keyword.Max) = head.Max
head_of_word _ = head.Plain

abbrev pub head_of : List Token → ItemHead
head_of [] = head.Plain
head_of (t ∷ ts) = head_of_word (keyword_of t.lexeme)

abbrev pub plain_item : Reader ItemText
plain_item = col >>= λ col. done (item_text.Plain col)

abbrev pub aggregate : Keyword → Reader ColText
aggregate w = the_keyword w >> col

abbrev pub item_by : ItemHead → Reader ItemText
item_by head.Plain = plain_item
item_by head.Count = the_keyword keyword.Count >> done item_text.Count
item_by head.Sum = aggregate keyword.Sum >>= λ col. done (item_text.Sum col)
item_by head.Min = aggregate keyword.Min >>= λ col. done (item_text.Min col)
item_by head.Max = aggregate keyword.Max >>= λ col. done (item_text.Max col)

-- item = col | "count" | "sum" col | "min" col | "max" col
abbrev pub item : Reader ItemText
item = by_first head_of item_by

abbrev pub number_of : Lexeme → Position → Option NumberText
number_of (lexeme.Int n) at = Some (record { number = n; at = at })
number_of _ at = None

-- int
abbrev pub number : Reader NumberText
number = one (λ token. number_of token.lexeme (place_of token))

-- ---- a query, whose lists have at most so many elements

-- conds = "where" cmp ("and" cmp)*, or nothing
abbrev pub conditions : ℕ → Reader (List ComparisonText)
conditions most = behind (is_keyword keyword.Where) (list_upto separator.And comparison most) (done [])

-- a word, "by" and a list with commas, or nothing
abbrev pub by_list : {A : Type 0} → ℕ → Keyword → Reader A → Reader (List A)
by_list most w element = behind (is_keyword w) (the_keyword keyword.By >> list_upto separator.Comma element most) (done [])

-- "select" and a list with commas
abbrev pub select_list : {A : Type 0} → ℕ → Reader A → Reader (List A)
select_list most element = the_keyword keyword.Select >> list_upto separator.Comma element most

-- [ "group" "by" col ("," col)* ] "select" item ("," item)*
abbrev pub items : ℕ → Reader SelectedText
items most = by_list most keyword.Group col >>= λ groups. select_list most item >>= λ items. done (selected.Items groups items)

-- "select" col ("," col)*
abbrev pub columns : ℕ → Reader SelectedText
columns most = select_list most col >>= λ columns. done (selected.Columns columns)

-- only a query of one source has groups and aggregates
abbrev pub selected_of : ℕ → List SourceText → Reader SelectedText
selected_of most (s ∷ []) = items most
selected_of most sources = columns most

-- "from" src ("join" src)* [ conds ] (items | columns) [ "order" "by" int ("," int)* ] ";"
abbrev pub select_upto : ℕ → ℕ → Reader SelectText
select_upto sources most =
    the_word word.From >> list_upto separator.Join source sources >>= λ sources. conditions most >>= λ comparisons. selected_of most sources >>= λ selected.
    by_list most keyword.Order number >>= λ order. ended sign.Semicolon (record { sources = sources; comparisons = comparisons; selected = selected; order = order })

-- the same, and nothing more
abbrev pub finish : SelectText → Reader SelectText
finish select = expect is_end >> done select

abbrev pub query_upto : ℕ → ℕ → Reader SelectText
query_upto sources most = select_upto sources most >>= finish

-- a query has at most 4 sources, and each other list of it at most 16 elements
abbrev pub query : Reader SelectText
query = query_upto 4 16
