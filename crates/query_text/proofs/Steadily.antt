-- Each rule of queries decides by the tokens that it has seen, and goes past no end of a text.
use Rattle.std.proofs.Common.{ℕ, List, [], ◌∷◌, refl}
use Rattle.proc_parse.specs.declared.token.Sign.TheVariants as sign
use Rattle.proc_parse.specs.declared.token.Word.TheVariants as word
use Rattle.proc_parse.specs.Expressions.{is_name}
use Rattle.proc_parse.specs.Reading.{Reader}
use Rattle.proc_parse.specs.Words.{is_sign}
use Rattle.query_text.specs.Grammar.{aggregate, by_list, col, columns, comparison, conditions, field, head_of, item, item_by, items, literal_side, minus, minus_side, named, number, relation, select_list, select_upto, selected_of, side, source}
use Rattle.query_text.specs.Keywords.{is_keyword}
use Rattle.query_text.specs.Lists.{list_upto}
use Rattle.query_text.specs.declared.items.ItemHead.{ItemHead}
use Rattle.query_text.specs.declared.items.ItemHead.TheVariants as head
use Rattle.query_text.specs.declared.keyword.Keyword.{Keyword}
use Rattle.query_text.specs.declared.keyword.Keyword.TheVariants as keyword
use Rattle.query_text.specs.declared.lists.Separator.TheVariants as separator
use Rattle.query_text.specs.declared.tree.SourceText.{SourceText}
use Rattle.query_text.proofs.Steady.{IsSteady, steady_before, steady_behind, steady_done, steady_first, steady_keyword, steady_one, steady_sign, steady_then, steady_upto, steady_word}

steady_named : IsSteady named
steady_named = steady_one _ (λ t. refl) (λ t. refl)

steady_source : IsSteady source
steady_source = steady_then named _ steady_named (λ table. steady_keyword keyword.As _ (steady_then named _ steady_named (λ name. steady_done _)))

steady_field : IsSteady field
steady_field = steady_one _ (λ t. refl) (λ t. refl)

steady_col : IsSteady col
steady_col = steady_then named _ steady_named (λ source. steady_sign sign.Dot _ (steady_then field _ steady_field (λ field. steady_done _)))

steady_relation : IsSteady relation
steady_relation = steady_one _ (λ t. refl) (λ t. refl)

steady_minus : IsSteady minus_side
steady_minus = steady_then minus _ (steady_one _ (λ t. refl) (λ t. refl)) (λ at. steady_one _ (λ t. refl) (λ t. refl))

steady_side : IsSteady side
steady_side = steady_before is_name _ _ (steady_then col _ steady_col (λ col. steady_done _))
    (steady_before (is_sign sign.Minus) minus_side literal_side steady_minus (steady_one _ (λ t. refl) (λ t. refl)))

steady_comparison : IsSteady comparison
steady_comparison = steady_then col _ steady_col (λ left. steady_then relation _ steady_relation (λ r. steady_then side _ steady_side (λ right. steady_done _)))

steady_aggregate : (w : Keyword) → IsSteady (aggregate w)
steady_aggregate w = steady_keyword w col steady_col

steady_by : (h : ItemHead) → IsSteady (item_by h)
steady_by head.Plain = steady_then col _ steady_col (λ col. steady_done _)
steady_by head.Count = steady_keyword keyword.Count _ (steady_done _)
steady_by head.Sum = steady_then (aggregate keyword.Sum) _ (steady_aggregate keyword.Sum) (λ col. steady_done _)
steady_by head.Min = steady_then (aggregate keyword.Min) _ (steady_aggregate keyword.Min) (λ col. steady_done _)
steady_by head.Max = steady_then (aggregate keyword.Max) _ (steady_aggregate keyword.Max) (λ col. steady_done _)

steady_item : IsSteady item
steady_item = steady_first head_of item_by (λ t xs ys. refl) steady_by

steady_number : IsSteady number
steady_number = steady_one _ (λ t. refl) (λ t. refl)

steady_conditions : (most : ℕ) → IsSteady (conditions most)
steady_conditions most = steady_behind (is_keyword keyword.Where) refl refl _ _ (steady_upto separator.And comparison steady_comparison most) (steady_done [])

steady_by_list : {A : Type 0} → (most : ℕ) (w : Keyword) (element : Reader A) → IsSteady element → IsSteady (by_list most w element)
steady_by_list most w element s = steady_behind (is_keyword w) refl refl _ _ (steady_keyword keyword.By _ (steady_upto separator.Comma element s most)) (steady_done [])

steady_select : {A : Type 0} → (most : ℕ) (element : Reader A) → IsSteady element → IsSteady (select_list most element)
steady_select most element s = steady_keyword keyword.Select _ (steady_upto separator.Comma element s most)

steady_items : (most : ℕ) → IsSteady (items most)
steady_items most = steady_then (by_list most keyword.Group col) _ (steady_by_list most keyword.Group col steady_col)
    (λ groups. steady_then (select_list most item) _ (steady_select most item steady_item) (λ items. steady_done _))

steady_columns : (most : ℕ) → IsSteady (columns most)
steady_columns most = steady_then (select_list most col) _ (steady_select most col steady_col) (λ columns. steady_done _)

steady_selected : (most : ℕ) (sources : List SourceText) → IsSteady (selected_of most sources)
steady_selected most [] = steady_columns most
steady_selected most (s ∷ []) = steady_items most
steady_selected most (s ∷ t ∷ sources) = steady_columns most

pub steady_query : IsSteady (select_upto 4 16)
steady_query =
    steady_word word.From _ (steady_then (list_upto separator.Join source 4) _ (steady_upto separator.Join source steady_source 4)
    (λ sources. steady_then (conditions 16) _ (steady_conditions 16) (λ comparisons. steady_then (selected_of 16 sources) _ (steady_selected 16 sources)
    (λ selected. steady_then (by_list 16 keyword.Order number) _ (steady_by_list 16 keyword.Order number steady_number) (λ order. steady_sign sign.Semicolon _ (steady_done _))))))
