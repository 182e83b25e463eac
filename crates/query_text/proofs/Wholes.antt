-- What each rule of queries has read where it stops goes on to a phrase.
use Rattle.std.proofs.Common.{◌≡◌, List, [], ◌∷◌, Bool, true, false, Option, Some, None, Ok, Err, ◌≤◌, pos, refl, subst, sym, arith, length}
use denote.Enum.Bare.{same_true}
use Rattle.rel_base.specs.declared.value.Value.TheVariants as value
use Rattle.proc_parse.specs.contracts.token.Sign as a_sign
use Rattle.proc_parse.specs.declared.token.Token.{Token}
use Rattle.proc_parse.specs.declared.token.Lexeme.{Lexeme}
use Rattle.proc_parse.specs.declared.token.Lexeme.TheVariants as lexeme
use Rattle.proc_parse.specs.declared.token.Sign.{Sign}
use Rattle.proc_parse.specs.declared.token.Sign.TheVariants as sign
use Rattle.proc_parse.specs.declared.token.Word.{Word}
use Rattle.proc_parse.specs.declared.token.Word.TheVariants as word
use Rattle.proc_parse.specs.Expressions.{is_name}
use Rattle.proc_parse.specs.Phrases.{ended, the_sign, the_word}
use Rattle.proc_parse.specs.Reading.{IsShorter, Read, Reader, Shortens, ◌>>=◌, ◌>>◌, before, done, on_read}
use Rattle.proc_parse.specs.Shorter.{IsWithin, NeverGrows, keeps_behind, keeps_done, keeps_of, shortens_before, shortens_one, shortens_sign, shortens_then}
use Rattle.proc_parse.specs.Words.{is_sign, is_word}
use Rattle.proc_parse.proofs.Viable.{Phrase, Viable, Whole, any, whole_any, whole_before, whole_done, whole_maybe, whole_then}
use Rattle.proc_parse.proofs.ViableForms.{never_empty, viable_first, whole_ahead, whole_behind, whole_expect, whole_one}
use Rattle.proc_parse.proofs.ViableRules.{token}
use Rattle.query_plan.specs.declared.select.Relation.TheVariants as relation
use Rattle.query_text.specs.Grammar.{by_list, col, columns, comparison, conditions, field, head_of, item, item_by, items, literal_side, minus, minus_side, named, number, select_list, select_upto, selected_of, side, source, the_keyword}
use Rattle.query_text.specs.Keywords.{is_keyword, is_own, keyword_in, keywords, spelling}
use Rattle.query_text.specs.Lists.{list_upto, separates}
use Rattle.query_text.specs.Shorter.{shortens_col, shortens_comparison, shortens_item, shortens_keyword, shortens_minus, shortens_number, shortens_upto}
use Rattle.query_text.specs.contracts.keyword.Keyword as a_keyword
use Rattle.query_text.specs.declared.items.ItemHead.{ItemHead}
use Rattle.query_text.specs.declared.items.ItemHead.TheVariants as head
use Rattle.query_text.specs.declared.keyword.Keyword.{Keyword}
use Rattle.query_text.specs.declared.keyword.Keyword.TheVariants as keyword
use Rattle.query_text.specs.declared.lists.Separator.TheVariants as separator
use Rattle.query_text.specs.declared.tree.ColText.{ColText}
use Rattle.query_text.specs.declared.tree.ComparisonText.{ComparisonText}
use Rattle.query_text.specs.declared.tree.FieldText.TheVariants as field_text
use Rattle.query_text.specs.declared.tree.ItemText.TheVariants as item_text
use Rattle.query_text.specs.declared.tree.NameText.{NameText}
use Rattle.query_text.specs.declared.tree.NumberText.{NumberText}
use Rattle.query_text.specs.declared.tree.SelectText.{SelectText}
use Rattle.query_text.specs.declared.tree.SelectedText.{SelectedText}
use Rattle.query_text.specs.declared.tree.SelectedText.TheVariants as selected
use Rattle.query_text.specs.declared.tree.SideText.{SideText}
use Rattle.query_text.specs.declared.tree.SideText.TheVariants as side_text
use Rattle.query_text.specs.declared.tree.SourceText.{SourceText}
use Rattle.query_text.proofs.Uptos.{whole_upto}

-- ---- tokens

abbrev sign_token : Sign → Token
sign_token s = token (lexeme.Sign s)

abbrev word_token : Word → Token
word_token w = token (lexeme.Word w)

abbrev keyword_token : Keyword → Token
keyword_token w = token (lexeme.Name (spelling w))

abbrev name_token : Token
name_token = token (lexeme.Name (97 ∷ []))

abbrev zero_token : Token
zero_token = token (lexeme.Int (pos 0))

abbrev some_name : NameText
some_name = record { name = 97 ∷ []; at = record { line = 0; col = 0 } }

abbrev some_col : ColText
some_col = record { source = some_name; field = field_text.Column some_name }

own_keyword : (w : Keyword) → is_keyword w (lexeme.Name (spelling w)) ≡ true
own_keyword w = elim w as (λ w. is_keyword w (lexeme.Name (spelling w)) ≡ true) [ keyword.As ↦ refl | _ ↦ refl ]

own_word : (w : Word) → is_word w (lexeme.Word w) ≡ true
own_word w = elim w as (λ w. is_word w (lexeme.Word w) ≡ true) [ word.Table ↦ refl | _ ↦ refl ]

own_sign : (s : Sign) → is_sign s (lexeme.Sign s) ≡ true
own_sign s = elim s as (λ s. is_sign s (lexeme.Sign s) ≡ true) [ sign.Open ↦ refl | _ ↦ refl ]

whole_sign : {A : Type 0} {p q : Reader A} {stop : Lexeme → Bool} {first : Option Token} (s : Sign) → Whole p q stop first → Whole (the_sign s >> p) (the_sign s >> q) stop (Some (sign_token s))
whole_sign {p = p} {q = q} s h = whole_then {f = λ _. p} {g = λ _. q} (whole_expect (is_sign s) (sign_token s) (own_sign s)) (λ _. h)

whole_word : {A : Type 0} {p q : Reader A} {stop : Lexeme → Bool} {first : Option Token} (w : Word) → Whole p q stop first → Whole (the_word w >> p) (the_word w >> q) stop (Some (word_token w))
whole_word {p = p} {q = q} w h = whole_then {f = λ _. p} {g = λ _. q} (whole_expect (is_word w) (word_token w) (own_word w)) (λ _. h)

whole_keyword : {A : Type 0} {p q : Reader A} {stop : Lexeme → Bool} {first : Option Token} (w : Keyword) → Whole p q stop first → Whole (the_keyword w >> p) (the_keyword w >> q) stop (Some (keyword_token w))
whole_keyword {p = p} {q = q} w h = whole_then {f = λ _. p} {g = λ _. q} (whole_expect (is_keyword w) (keyword_token w) (own_keyword w)) (λ _. h)

-- ---- what may follow

-- a token that is one word is not another
other_keyword : (v w : Keyword) → is_own v (Some w) ≡ false → (l : Lexeme) → is_keyword w l ≡ true → is_keyword v l ≡ false
other_keyword v w differ (lexeme.Word u) h = absurd cc
other_keyword v w differ (lexeme.Name bytes) h =
    elim (keyword_in keywords bytes) as (λ o. is_own w o ≡ true → is_own v o ≡ false) [
      | None ↦ λ k. absurd cc
      | Some u ↦ λ k. subst (λ u. is_own v (Some u) ≡ false) (sym (same_true a_keyword.the_type tt u w k)) differ
    ] h
other_keyword v w differ (lexeme.Int n) h = absurd cc
other_keyword v w differ (lexeme.Text t) h = absurd cc
other_keyword v w differ (lexeme.Bytes t) h = absurd cc
other_keyword v w differ (lexeme.Sign s) h = absurd cc
other_keyword v w differ lexeme.Bad h = absurd cc
other_keyword v w differ lexeme.End h = absurd cc

-- nor a word of applications
no_word : (v : Word) (w : Keyword) (l : Lexeme) → is_keyword w l ≡ true → is_word v l ≡ false
no_word v w (lexeme.Word u) h = absurd cc
no_word v w (lexeme.Name bytes) h = refl
no_word v w (lexeme.Int n) h = absurd cc
no_word v w (lexeme.Text t) h = absurd cc
no_word v w (lexeme.Bytes t) h = absurd cc
no_word v w (lexeme.Sign s) h = absurd cc
no_word v w lexeme.Bad h = absurd cc
no_word v w lexeme.End h = absurd cc

-- nor a sign
no_sign : (v : Sign) (w : Keyword) (l : Lexeme) → is_keyword w l ≡ true → is_sign v l ≡ false
no_sign v w (lexeme.Word u) h = absurd cc
no_sign v w (lexeme.Name bytes) h = refl
no_sign v w (lexeme.Int n) h = absurd cc
no_sign v w (lexeme.Text t) h = absurd cc
no_sign v w (lexeme.Bytes t) h = absurd cc
no_sign v w (lexeme.Sign s) h = absurd cc
no_sign v w lexeme.Bad h = absurd cc
no_sign v w lexeme.End h = absurd cc

abbrev semicolon : Lexeme → Bool
semicolon = is_sign sign.Semicolon

abbrev selects : Lexeme → Bool
selects = is_keyword keyword.Select

-- what is so of a semicolon
at_semicolon : (P : Lexeme → Type 0) → P (lexeme.Sign sign.Semicolon) → (l : Lexeme) → semicolon l ≡ true → P l
at_semicolon P p (lexeme.Word v) h = absurd cc
at_semicolon P p (lexeme.Name v) h = absurd cc
at_semicolon P p (lexeme.Int v) h = absurd cc
at_semicolon P p (lexeme.Text v) h = absurd cc
at_semicolon P p (lexeme.Bytes v) h = absurd cc
at_semicolon P p (lexeme.Sign s) h = subst (λ s. P (lexeme.Sign s)) (sym (same_true a_sign.the_type tt s sign.Semicolon h)) p
at_semicolon P p lexeme.Bad h = absurd cc
at_semicolon P p lexeme.End h = absurd cc

-- ---- elements

whole_named : Whole named named any (Some name_token)
whole_named = whole_one _ name_token some_name refl

whole_source : Whole source source any (Some name_token)
whole_source = whole_then whole_named (λ table. whole_keyword keyword.As (whole_then whole_named (λ name. whole_done any (record { table = table; name = name }))))

whole_col : Whole col col any (Some name_token)
whole_col = whole_then whole_named (λ source. whole_sign sign.Dot (whole_then (whole_one _ name_token (field_text.Column some_name) refl) (λ f. whole_done any (record { source = source; field = f }))))

whole_minus : Whole minus_side minus_side any (Some (sign_token sign.Minus))
whole_minus = whole_then {p = minus} {q = minus} (whole_one _ (sign_token sign.Minus) (record { line = 0; col = 0 }) refl)
    (λ at. whole_one _ zero_token (side_text.Given (value.Int (pos 0)) at) refl)

whole_value : Whole literal_side literal_side any (Some zero_token)
whole_value = whole_one _ zero_token (side_text.Given (value.Int (pos 0)) (record { line = 0; col = 0 })) refl

shortens_literal : Shortens literal_side
shortens_literal = shortens_one _

abbrev col_side : Reader SideText
col_side = col >>= λ c. done (side_text.Field c)

abbrev value_side : Reader SideText
value_side = before (is_sign sign.Minus) minus_side literal_side

whole_side : Whole side side any (Some zero_token)
whole_side =
    whole_ahead is_name col_side value_side col_side value_side any (whole_then whole_col (λ c. whole_done any (side_text.Field c))).viable
    (shortens_then col _ shortens_col (λ c. keeps_done (side_text.Field c)))
    (whole_ahead (is_sign sign.Minus) minus_side literal_side minus_side literal_side any whole_minus.viable shortens_minus whole_value
    (never_empty (is_sign sign.Minus) literal_side any shortens_literal) (λ s k. refl))
    (never_empty is_name value_side any (shortens_before (is_sign sign.Minus) minus_side literal_side shortens_minus shortens_literal)) (λ s k. refl)

whole_comparison : Whole comparison comparison any (Some name_token)
whole_comparison = whole_then whole_col (λ left. whole_then (whole_one _ (sign_token sign.Equal) relation.Equal refl)
    (λ r. whole_then whole_side (λ right. whole_done any (record { left = left; relation = r; right = right }))))

viable_by : (h : ItemHead) → Viable (item_by h) (item_by h) any
viable_by head.Plain = (whole_then whole_col (λ c. whole_done any (item_text.Plain c))).viable
viable_by head.Count = (whole_keyword keyword.Count (whole_done any item_text.Count)).viable
viable_by head.Sum = (whole_then (whole_keyword keyword.Sum whole_col) (λ c. whole_done any (item_text.Sum c))).viable
viable_by head.Min = (whole_then (whole_keyword keyword.Min whole_col) (λ c. whole_done any (item_text.Min c))).viable
viable_by head.Max = (whole_then (whole_keyword keyword.Max whole_col) (λ c. whole_done any (item_text.Max c))).viable

phrase_item : Phrase item any (Some name_token)
phrase_item = record {
  tokens = name_token ∷ sign_token sign.Dot ∷ name_token ∷ [];
  tree = item_text.Plain some_col;
  starts = λ s. refl;
  reads = λ s k. record { reads = λ ys. refl };
}

whole_item : Whole item item any (Some name_token)
whole_item = record { viable = viable_first head_of item_by item_by any (λ h t u. refl) viable_by shortens_item; phrase = phrase_item }

whole_number : Whole number number any (Some zero_token)
whole_number = whole_one _ zero_token (record { number = pos 0; at = record { line = 0; col = 0 } }) refl

-- ---- parts

comma_at_semicolon : (l : Lexeme) → semicolon l ≡ true → separates separator.Comma l ≡ false
comma_at_semicolon = at_semicolon (λ l. is_sign sign.Comma l ≡ false) refl

whole_conditions : Whole (conditions 16) (conditions 17) selects None
whole_conditions = whole_behind (is_keyword keyword.Where) (list_upto separator.And comparison 16) (done []) (list_upto separator.And comparison 17) (done []) selects
    (whole_upto separator.And comparison selects (no_word word.And keyword.Select) name_token (whole_any selects whole_comparison) 16) (whole_done selects [])
    (λ ts x e. other_keyword keyword.Where keyword.Select refl) (λ s k. other_keyword keyword.Where keyword.Select refl s.lexeme k)

module _ {A : Type 0} (element : Reader A) (t : Token) (w : Whole element element any (Some t)) where
  whole_list : (stop : Lexeme → Bool) → ((l : Lexeme) → stop l ≡ true → separates separator.Comma l ≡ false) → Whole (list_upto separator.Comma element 16) (list_upto separator.Comma element 17) stop (Some t)
  whole_list stop quiet = whole_upto separator.Comma element stop quiet t (whole_any stop w) 16

  whole_by_list : (v : Keyword) (stop : Lexeme → Bool) → ((l : Lexeme) → stop l ≡ true → separates separator.Comma l ≡ false) → ((l : Lexeme) → stop l ≡ true → is_keyword v l ≡ false)
      → Whole (by_list 16 v element) (by_list 17 v element) stop None
  whole_by_list v stop quiet absent =
      whole_behind (is_keyword v) (the_keyword keyword.By >> list_upto separator.Comma element 16) (done []) (the_keyword keyword.By >> list_upto separator.Comma element 17) (done []) stop
      (whole_keyword keyword.By (whole_list stop quiet)) (whole_done stop []) (λ ts x e. absent) (λ s k. absent s.lexeme k)

  whole_select : Whole (select_list 16 element) (select_list 17 element) semicolon (Some (keyword_token keyword.Select))
  whole_select = whole_keyword keyword.Select (whole_list semicolon comma_at_semicolon)

shortens_select : {A : Type 0} → (element : Reader A) → Shortens element → Shortens (select_list 16 element)
shortens_select element short = shortens_keyword keyword.Select _ (keeps_of _ (shortens_upto separator.Comma element short 16))

whole_items : Whole (items 16) (items 17) semicolon (Some (keyword_token keyword.Select))
whole_items =
    whole_before selects (whole_by_list col name_token whole_col keyword.Group selects (no_sign sign.Comma keyword.Select) (other_keyword keyword.Group keyword.Select refl))
    (λ groups. whole_maybe (whole_select item name_token whole_item) (λ is. whole_done semicolon (selected.Items groups is)))
    (λ groups. shortens_then (select_list 16 item) _ (shortens_select item shortens_item) (λ is. keeps_done (selected.Items groups is))) refl

shortens_columns : Shortens (columns 16)
shortens_columns = shortens_then (select_list 16 col) _ (shortens_select col shortens_col) (λ cs. keeps_done (selected.Columns cs))

whole_columns : Whole (columns 16) (columns 17) semicolon (Some (keyword_token keyword.Select))
whole_columns = whole_maybe (whole_select col name_token whole_col) (λ cs. whole_done semicolon (selected.Columns cs))

whole_selected : (sources : List SourceText) → Whole (selected_of 16 sources) (selected_of 17 sources) semicolon (Some (keyword_token keyword.Select))
whole_selected [] = whole_columns
whole_selected (s ∷ []) = whole_items
whole_selected (s ∷ t ∷ sources) = whole_columns

-- ---- a reader that takes no token, and then one that takes some

less : {A : Type 0} → (few ts : List Token) (r : Read A) → length few ≤ length ts → IsShorter few r → IsShorter ts r
less few ts (Ok x) h k = omega (arith, h, k)
less few ts (Err rest) h k = omega (arith, h, k)

shorter_after : {A B : Type 0} → (ts : List Token) (r : Read A) (f : A → Reader B) → IsWithin ts r → ((x : A) → Shortens (f x)) → IsShorter ts (on_read r f)
shorter_after ts (Ok x) f h k = less x.1 ts (f x.0 x.1) h ((k x.0).shorter x.1)
shorter_after ts (Err rest) f h k = h

shortens_after : {A B : Type 0} → (p : Reader A) (f : A → Reader B) → NeverGrows p → ((x : A) → Shortens (f x)) → Shortens (p >>= f)
shortens_after p f kp sf = record { shorter = λ ts. shorter_after ts (p ts) f (kp.within ts) sf }

keeps_by_list : {A : Type 0} → (w : Keyword) (element : Reader A) → Shortens element → NeverGrows (by_list 16 w element)
keeps_by_list w element short = keeps_behind (is_keyword w) _ _ (keeps_of _ (shortens_keyword keyword.By _ (keeps_of _ (shortens_upto separator.Comma element short 16)))) (keeps_done [])

keeps_conditions : NeverGrows (conditions 16)
keeps_conditions = keeps_behind (is_keyword keyword.Where) _ _ (keeps_of _ (shortens_upto separator.And comparison shortens_comparison 16)) (keeps_done [])

shortens_items : Shortens (items 16)
shortens_items = shortens_after (by_list 16 keyword.Group col) _ (keeps_by_list keyword.Group col shortens_col)
    (λ groups. shortens_then (select_list 16 item) _ (shortens_select item shortens_item) (λ is. keeps_done (selected.Items groups is)))

shortens_selected : (sources : List SourceText) → Shortens (selected_of 16 sources)
shortens_selected [] = shortens_columns
shortens_selected (s ∷ []) = shortens_items
shortens_selected (s ∷ t ∷ sources) = shortens_columns

-- ---- a query

abbrev tree : List SourceText → List ComparisonText → SelectedText → List NumberText → SelectText
tree sources comparisons chosen order = record { sources = sources; comparisons = comparisons; selected = chosen; order = order }

whole_end : (sources : List SourceText) (comparisons : List ComparisonText) (chosen : SelectedText)
    → Whole (by_list 16 keyword.Order number >>= λ order. ended sign.Semicolon (tree sources comparisons chosen order))
    (by_list 17 keyword.Order number >>= λ order. ended sign.Semicolon (tree sources comparisons chosen order)) any (Some (sign_token sign.Semicolon))
whole_end sources comparisons chosen =
    whole_before semicolon (whole_by_list number zero_token whole_number keyword.Order semicolon comma_at_semicolon (at_semicolon (λ l. is_keyword keyword.Order l ≡ false) refl))
    (λ order. whole_sign sign.Semicolon (whole_done any (tree sources comparisons chosen order))) (λ order. shortens_sign sign.Semicolon _ (keeps_done (tree sources comparisons chosen order))) refl

shortens_end : (sources : List SourceText) (comparisons : List ComparisonText) (chosen : SelectedText)
    → Shortens (by_list 16 keyword.Order number >>= λ order. ended sign.Semicolon (tree sources comparisons chosen order))
shortens_end sources comparisons chosen =
    shortens_after (by_list 16 keyword.Order number) _ (keeps_by_list keyword.Order number shortens_number)
    (λ order. shortens_sign sign.Semicolon _ (keeps_done (tree sources comparisons chosen order)))

whole_chosen : (sources : List SourceText) (comparisons : List ComparisonText)
    → Whole (selected_of 16 sources >>= λ chosen. by_list 16 keyword.Order number >>= λ order. ended sign.Semicolon (tree sources comparisons chosen order))
    (selected_of 17 sources >>= λ chosen. by_list 17 keyword.Order number >>= λ order. ended sign.Semicolon (tree sources comparisons chosen order))
    any (Some (keyword_token keyword.Select))
whole_chosen sources comparisons = whole_before semicolon (whole_selected sources) (whole_end sources comparisons) (shortens_end sources comparisons) refl

shortens_chosen : (sources : List SourceText) (comparisons : List ComparisonText)
    → Shortens (selected_of 16 sources >>= λ chosen. by_list 16 keyword.Order number >>= λ order. ended sign.Semicolon (tree sources comparisons chosen order))
shortens_chosen sources comparisons = shortens_then (selected_of 16 sources) _ (shortens_selected sources) (λ chosen. keeps_of _ (shortens_end sources comparisons chosen))

pub whole_query : Whole (select_upto 4 16) (select_upto 5 17) any (Some (word_token word.From))
whole_query = whole_word word.From (
    whole_before selects (whole_upto separator.Join source selects (other_keyword keyword.Join keyword.Select refl) name_token (whole_any selects whole_source) 4)
    (λ sources. whole_before selects whole_conditions (whole_chosen sources) (shortens_chosen sources) refl)
    (λ sources. shortens_after (conditions 16) _ keeps_conditions (shortens_chosen sources)) refl)
