-- Each phrase of a query takes a token at least.
use Rattle.std.specs.Prelude.{ℕ, zero, suc, List, [], ◌∷◌, ◌++◌}
use Rattle.proc_parse.specs.Expressions.{is_name}
use Rattle.proc_parse.specs.Reading.{Reader, ◌>>◌, Shortens}
use Rattle.proc_parse.specs.Shorter.{NeverGrows, keeps_behind, keeps_done, keeps_of, keeps_sign, keeps_then, shortens_before, shortens_expect, shortens_first, shortens_one, shortens_refuse, shortens_then}
use Rattle.proc_parse.specs.Words.{is_sign}
use Rattle.proc_parse.specs.declared.token.Sign.TheVariants as sign
use Rattle.query_text.specs.Grammar.{aggregate, col, comparison, field, given_side, head_of, item, item_by, literal_side, minus, minus_side, named, number, plain_item, relation, side, source, the_keyword}
use Rattle.query_text.specs.Lists.{list_upto, separates, upto_from}
use Rattle.query_text.specs.declared.items.ItemHead.{ItemHead}
use Rattle.query_text.specs.declared.items.ItemHead.TheVariants as head
use Rattle.query_text.specs.declared.keyword.Keyword.{Keyword}
use Rattle.query_text.specs.declared.keyword.Keyword.TheVariants as keyword
use Rattle.query_text.specs.declared.lists.Separator.{Separator}
use Rattle.query_text.specs.declared.tree.ItemText.TheVariants as item_text
use Rattle.query_text.specs.declared.tree.SideText.TheVariants as side_text

pub shortens_keyword : {A : Type 0} → (w : Keyword) (next : Reader A) → NeverGrows next → Shortens (the_keyword w >> next)
shortens_keyword w next k = shortens_then (the_keyword w) (λ _. next) (shortens_expect _) (λ _. k)

pub shortens_named : Shortens named
shortens_named = shortens_one _

pub shortens_source : Shortens source
shortens_source = shortens_then named _ shortens_named (λ table. keeps_of _ (shortens_keyword keyword.As _ (keeps_then named _ (keeps_of _ shortens_named) (λ name. keeps_done _))))

pub shortens_col : Shortens col
shortens_col = shortens_then named _ shortens_named (λ source. keeps_sign sign.Dot _ (keeps_then field _ (keeps_of _ (shortens_one _)) (λ field. keeps_done _)))

pub shortens_minus : Shortens minus_side
shortens_minus = shortens_then minus _ (shortens_one _) (λ at. keeps_of (given_side at) (shortens_one _))

pub shortens_side : Shortens side
shortens_side = shortens_before is_name _ _ (shortens_then col _ shortens_col (λ c. keeps_done (side_text.Field c)))
    (shortens_before (is_sign sign.Minus) minus_side literal_side shortens_minus (shortens_one _))

pub shortens_comparison : Shortens comparison
shortens_comparison = shortens_then col _ shortens_col (λ left. keeps_then relation _ (keeps_of _ (shortens_one _)) (λ r. keeps_then side _ (keeps_of _ shortens_side) (λ right. keeps_done _)))

pub shortens_plain : Shortens plain_item
shortens_plain = shortens_then col _ shortens_col (λ c. keeps_done (item_text.Plain c))

pub shortens_aggregate : (w : Keyword) → Shortens (aggregate w)
shortens_aggregate w = shortens_keyword w col (keeps_of col shortens_col)

pub shortens_by : (h : ItemHead) → Shortens (item_by h)
shortens_by head.Plain = shortens_plain
shortens_by head.Count = shortens_keyword keyword.Count _ (keeps_done item_text.Count)
shortens_by head.Sum = shortens_then (aggregate keyword.Sum) _ (shortens_aggregate keyword.Sum) (λ c. keeps_done (item_text.Sum c))
shortens_by head.Min = shortens_then (aggregate keyword.Min) _ (shortens_aggregate keyword.Min) (λ c. keeps_done (item_text.Min c))
shortens_by head.Max = shortens_then (aggregate keyword.Max) _ (shortens_aggregate keyword.Max) (λ c. keeps_done (item_text.Max c))

pub shortens_item : Shortens item
shortens_item = shortens_first head_of item_by shortens_by

pub shortens_number : Shortens number
shortens_number = shortens_one _

shortens_from : {A : Type 0} → (by : Separator) (element : Reader A) → Shortens element → (more : ℕ) (items : List A) → Shortens (upto_from by element more items)
shortens_from {A = A} by element short zero items = shortens_refuse (List A)
shortens_from by element short (suc more) items =
    shortens_then element _ short (λ x. keeps_behind (separates by) _ _ (keeps_of _ (shortens_from by element short more (items ++ x ∷ []))) (keeps_done (items ++ x ∷ [])))

pub shortens_upto : {A : Type 0} → (by : Separator) (element : Reader A) → Shortens element → (most : ℕ) → Shortens (list_upto by element most)
shortens_upto by element short most = shortens_from by element short most []
