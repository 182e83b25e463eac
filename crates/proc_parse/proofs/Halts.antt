-- No reader goes past the end of the text, nor past a bad token, so what is left where one stops is never empty.
use Rattle.std.proofs.Common.{◌≡◌, ℕ, zero, suc, ◌<◌, ◌-◌, List, [], ◌∷◌, ◌++◌, length, Bool, true, false, cond, ◌||◌, Option, Some, None, Ok, Err, refl, sym, ap, subst, ◌∙◌, arith}
use Rattle.proc_parse.specs.declared.token.Token.{Token}
use Rattle.proc_parse.specs.declared.token.Lexeme.{Lexeme}
use Rattle.proc_parse.specs.declared.token.Lexeme.TheVariants as lexeme
use Rattle.proc_parse.specs.declared.token.Word.{Word}
use Rattle.proc_parse.specs.declared.token.Word.TheVariants as word
use Rattle.proc_parse.specs.declared.token.Sign.{Sign}
use Rattle.proc_parse.specs.declared.token.Sign.TheVariants as sign
use Rattle.proc_parse.specs.Words.{is_word, is_sign}
use Rattle.proc_parse.specs.Reading.{Read, Reader, on_read, ◌>>=◌, ◌>>◌, done, refuse, if_past, begins, behind, before, by_first, expect, one, if_found}
use Rattle.proc_parse.specs.Lists.{list_from, list_of, many_from, many_of}
use Rattle.proc_syntax.specs.declared.tree.Op.{Op}
use Rattle.proc_syntax.specs.declared.tree.Expr.{Expr}
use Rattle.proc_syntax.specs.declared.tree.Expr.TheVariants as expr
use Rattle.proc_syntax.specs.declared.tree.Stmt.{Stmt}
use Rattle.proc_syntax.specs.declared.tree.Stmt.TheVariants as stmt
use Rattle.proc_parse.specs.declared.statements.Head.{Head}
use Rattle.proc_parse.specs.declared.statements.Head.TheVariants as head
use Rattle.proc_parse.specs.Phrases.{the_word, the_sign, ended, in_parens, named, named_behind, kind_rule, column, columns, names}
use Rattle.proc_parse.specs.Expressions.{op_before, if_op, op_at, with_op, chain_from, chain_of, comparison_op, or_op, and_op, sum_op, term_op, single, is_name, name_or_field, line_at, Inner, inner, deeper, atom_of, unary_of, term_of, sum_of, comparison_of, negation_of, conjunction_of, expression_of, expression}
use Rattle.proc_parse.specs.Statements.{keys, keyed, new_value, let_statement, assignment, some_block, branches, if_statement, two_blocks, get_statement, span_end, span, for_statement, insert_statement, change, changes, update_statement, delete_statement, fail_statement, text_rule, head_of, statement_by, statement_of, no_close, block_at, block}
use Rattle.proc_parse.specs.Grammar.{table_end, table, parameters, procedure, is_end, declares_exact, application}
use Rattle.proc_parse.specs.declared.lexer.Piece.{Piece}
use Rattle.proc_parse.specs.declared.lexer.Piece.TheVariants as piece
use Rattle.proc_parse.specs.declared.lexer.Position.{Position}
use Rattle.proc_parse.specs.Tokens.{start, piece_at, is_last, ends, put, tokens_in, tokens_of}
use Rattle.proc_parse.specs.Faults.{position_of, IsRefused}
use Rattle.proc_parse.proofs.Pieces.{piece_shorter}
use Rattle.proc_parse.proofs.Local.{left, bad_stays}
use Rattle.proc_parse.proofs.LocalRules.{local_application}

-- whether the end of the text, or a bad token, is among these
abbrev pub has_last : List Token → Bool
has_last [] = false
has_last (t ∷ ts) = is_last t.lexeme || has_last ts

pub record Halts {A : Type 0} (p : Reader A) : Type 0 where
  pub ends : (xs : List Token) → has_last xs ≡ true → has_last (left (p xs)) ≡ true

-- what holds of the end and of a bad token
last_cases : (P : Lexeme → Type 0) → P lexeme.End → P lexeme.Bad → (l : Lexeme) → is_last l ≡ true → P l
last_cases P e b (lexeme.Word w) h = absurd cc
last_cases P e b (lexeme.Name n) h = absurd cc
last_cases P e b (lexeme.Int n) h = absurd cc
last_cases P e b (lexeme.Text t) h = absurd cc
last_cases P e b (lexeme.Bytes t) h = absurd cc
last_cases P e b (lexeme.Sign s) h = absurd cc
last_cases P e b lexeme.Bad h = b
last_cases P e b lexeme.End h = e

rest_last : (first rest : Bool) → (first ≡ true → ⊥) → (first || rest) ≡ true → rest ≡ true
rest_last true rest never h = absurd (never refl)
rest_last false rest never h = h

pub halts_done : {A : Type 0} → (x : A) → Halts (done x)
halts_done x = record { ends = λ xs h. h }

pub halts_refuse : (A : Type 0) → Halts (refuse {A = A})
halts_refuse A = record { ends = λ xs h. h }

ends_then : {A B : Type 0} → (r : Read A) (f : A → Reader B) → ((x : A) → Halts (f x)) → has_last (left r) ≡ true → has_last (left (on_read r f)) ≡ true
ends_then (Ok x) f hf h = (hf x.0).ends x.1 h
ends_then (Err rest) f hf h = h

pub halts_then : {A B : Type 0} → (p : Reader A) (f : A → Reader B) → Halts p → ((x : A) → Halts (f x)) → Halts (p >>= f)
halts_then p f hp hf = record { ends = λ xs h. ends_then (p xs) f hf (hp.ends xs h) }

ends_past : {A : Type 0} → (b : Bool) (t : Token) (xs : List Token) (go : Reader A) (stay : Read A) → (is_last t.lexeme ≡ true → b ≡ false) → Halts go
    → has_last (left stay) ≡ true → has_last (t ∷ xs) ≡ true → has_last (left (if_past (cond b (Some xs) None) go stay)) ≡ true
ends_past true t xs go stay never hg hs h = hg.ends xs (rest_last (is_last t.lexeme) (has_last xs) (λ e. let w : true ≡ false = never e in absurd cc) h)
ends_past false t xs go stay never hg hs h = hs

ends_behind : {A : Type 0} → (test : Lexeme → Bool) → test lexeme.End ≡ false → test lexeme.Bad ≡ false → (go stay : Reader A) → Halts go → Halts stay
    → (xs : List Token) → has_last xs ≡ true → has_last (left (behind test go stay xs)) ≡ true
ends_behind test e b go stay hg hs [] h = hs.ends [] h
ends_behind test e b go stay hg hs (t ∷ xs) h = ends_past (test t.lexeme) t xs go (stay (t ∷ xs)) (last_cases (λ l. test l ≡ false) e b t.lexeme) hg (hs.ends (t ∷ xs) h) h

pub halts_behind : {A : Type 0} → (test : Lexeme → Bool) → test lexeme.End ≡ false → test lexeme.Bad ≡ false → (go stay : Reader A) → Halts go → Halts stay → Halts (behind test go stay)
halts_behind test e b go stay hg hs = record { ends = ends_behind test e b go stay hg hs }

pub halts_first : {A H : Type 0} → (head : List Token → H) (go : H → Reader A) → ((h : H) → Halts (go h)) → Halts (by_first head go)
halts_first head go hg = record { ends = λ xs h. (hg (head xs)).ends xs h }

ends_choice : {A : Type 0} → (b : Bool) (go stay : Read A) → has_last (left go) ≡ true → has_last (left stay) ≡ true → has_last (left (cond b go stay)) ≡ true
ends_choice true go stay hg hs = hg
ends_choice false go stay hg hs = hs

pub halts_before : {A : Type 0} → (test : Lexeme → Bool) (go stay : Reader A) → Halts go → Halts stay → Halts (before test go stay)
halts_before test go stay hg hs = record { ends = λ xs h. ends_choice (begins test xs) (go xs) (stay xs) (hg.ends xs h) (hs.ends xs h) }

ends_found : {A : Type 0} → (o : Option A) (t : Token) (xs : List Token) → (is_last t.lexeme ≡ true → o ≡ None) → has_last (t ∷ xs) ≡ true → has_last (left (if_found o t xs)) ≡ true
ends_found (Some x) t xs never h = rest_last (is_last t.lexeme) (has_last xs) (λ e. let w : Some x ≡ None = never e in absurd cc) h
ends_found None t xs never h = h

ends_one : {A : Type 0} → (meaning : Token → Option A) → ((t : Token) → is_last t.lexeme ≡ true → meaning t ≡ None) → (xs : List Token) → has_last xs ≡ true
    → has_last (left (one meaning xs)) ≡ true
ends_one meaning never [] h = h
ends_one meaning never (t ∷ xs) h = ends_found (meaning t) t xs (never t) h

pub halts_one : {A : Type 0} → (meaning : Token → Option A) → ((t : Token) → meaning (record t { lexeme = lexeme.End }) ≡ None)
    → ((t : Token) → meaning (record t { lexeme = lexeme.Bad }) ≡ None) → Halts (one meaning)
halts_one meaning e b = record {
  ends = ends_one meaning
      (λ t h. last_cases (λ l. (t : Token) → meaning (record t { lexeme = l }) ≡ None) e b t.lexeme h t);
}

ends_op_by : {A : Type 0} → (o : Option Op) (go : Op → Reader A) (stay : A) (t : Token) (xs : List Token) → (is_last t.lexeme ≡ true → o ≡ None) → ((o : Op) → Halts (go o))
    → has_last (t ∷ xs) ≡ true → has_last (left (if_op (op_before o xs) go stay (t ∷ xs))) ≡ true
ends_op_by None go stay t xs never hg h = h
ends_op_by (Some o) go stay t xs never hg h = (hg o).ends xs (rest_last (is_last t.lexeme) (has_last xs) (λ e. let w : Some o ≡ None = never e in absurd cc) h)

ends_op : {A : Type 0} → (ops : Lexeme → Option Op) → ops lexeme.End ≡ None → ops lexeme.Bad ≡ None → (go : Op → Reader A) (stay : A) → ((o : Op) → Halts (go o))
    → (xs : List Token) → has_last xs ≡ true → has_last (left (with_op ops go stay xs)) ≡ true
ends_op ops e b go stay hg [] h = h
ends_op ops e b go stay hg (t ∷ xs) h = ends_op_by (ops t.lexeme) go stay t xs (last_cases (λ l. ops l ≡ None) e b t.lexeme) hg h

halts_op : {A : Type 0} → (ops : Lexeme → Option Op) → ops lexeme.End ≡ None → ops lexeme.Bad ≡ None → (go : Op → Reader A) (stay : A) → ((o : Op) → Halts (go o)) → Halts (with_op ops go stay)
halts_op ops e b go stay hg = record { ends = ends_op ops e b go stay hg }

no_op_ends : {A : Type 0} → (o : Option (Op × List Token)) (stay : A) (ts : List Token) → has_last ts ≡ true → has_last (left (if_op {A = A} o (λ _ _. Err ts) stay ts)) ≡ true
no_op_ends None stay ts h = h
no_op_ends (Some found) stay ts h = h

halts_chain_from : (ops : Lexeme → Option Op) → ops lexeme.End ≡ None → ops lexeme.Bad ≡ None → (operand : Reader Expr) → Halts operand → (more : ℕ) (e : Expr) → Halts (chain_from ops operand more e)
halts_chain_from ops e b operand l zero left = record { ends = λ xs h. no_op_ends (op_at ops xs) left xs h }
halts_chain_from ops e b operand l (suc more) left =
    halts_op ops e b _ left (λ o. halts_then operand _ l (λ right. halts_chain_from ops e b operand l more (expr.Two o left right)))

halts_chain : (ops : Lexeme → Option Op) → ops lexeme.End ≡ None → ops lexeme.Bad ≡ None → (operand : Reader Expr) → Halts operand → Halts (chain_of ops operand)
halts_chain ops e b operand l = halts_then operand _ l (λ left. halts_chain_from ops e b operand l 32 left)

halts_list_from : {A : Type 0} → (item : Reader A) → Halts item → (steps : ℕ) (items : List A) → Halts (list_from item steps items)
halts_list_from {A = A} item l zero items = halts_refuse (List A)
halts_list_from item l (suc steps) items =
    halts_then item _ l (λ x. halts_behind (is_sign sign.Comma) refl refl _ _ (halts_list_from item l steps (items ++ x ∷ [])) (halts_done (items ++ x ∷ [])))

halts_list : {A : Type 0} → (item : Reader A) → Halts item → Halts (list_of item)
halts_list item l = record { ends = λ xs h. (halts_list_from item l (length xs) []).ends xs h }

halts_many_from : {A : Type 0} → (test : Lexeme → Bool) (item : Reader A) → Halts item → (steps : ℕ) (items : List A) → Halts (many_from test item steps items)
halts_many_from test item l zero items = halts_done items
halts_many_from test item l (suc steps) items =
    halts_before test _ _ (halts_then item _ l (λ x. halts_many_from test item l steps (items ++ x ∷ []))) (halts_done items)

halts_many : {A : Type 0} → (test : Lexeme → Bool) (item : Reader A) → Halts item → Halts (many_of test item)
halts_many test item l = record { ends = λ xs h. (halts_many_from test item l (length xs) []).ends xs h }

-- ---- the rules

pub halts_expect : (test : Lexeme → Bool) → test lexeme.End ≡ false → test lexeme.Bad ≡ false → Halts (expect test)
halts_expect test e b = halts_behind test e b (done tt) refuse (halts_done tt) (halts_refuse (Unit {0}))

halts_word : {A : Type 0} → (w : Word) (next : Reader A) → Halts next → Halts (the_word w >> next)
halts_word w next l = halts_then (the_word w) (λ _. next) (halts_expect (is_word w) refl refl) (λ _. l)

halts_sign : {A : Type 0} → (s : Sign) (next : Reader A) → Halts next → Halts (the_sign s >> next)
halts_sign s next l = halts_then (the_sign s) (λ _. next) (halts_expect (is_sign s) refl refl) (λ _. l)

pub halts_parens : {A : Type 0} → (phrase : Reader A) → Halts phrase → Halts (in_parens phrase)
halts_parens phrase l = halts_sign sign.Open _ (halts_then phrase _ l (λ x. halts_sign sign.Close _ (halts_done x)))

pub halts_named : Halts named
halts_named = halts_one _ (λ t. refl) (λ t. refl)

halts_named_behind : (w : Word) → Halts (named_behind w)
halts_named_behind w = halts_word w named halts_named

pub halts_column : Halts column
halts_column = halts_then named _ halts_named (λ name. halts_then kind_rule _ ((halts_one _ (λ t. refl) (λ t. refl))) (λ kind. halts_done _))

pub halts_columns : Halts columns
halts_columns = halts_parens (list_of column) (halts_list column halts_column)

pub halts_names : Halts names
halts_names = halts_parens (list_of named) (halts_list named halts_named)

-- ---- expressions

pub record HaltsInner (i : Inner) : Type 0 where
  pub minus : Halts i.minus
  pub nots : Halts i.nots
  pub parens : Halts i.parens

halts_field : Halts name_or_field
halts_field = halts_then named _ halts_named
    (λ name. halts_behind (is_sign sign.Dot) refl refl _ _ (halts_then named _ (halts_named) (λ column. halts_done (expr.Field name column))) (halts_done (expr.Var name)))

halts_atom : (i : Inner) → HaltsInner i → Halts (atom_of i)
halts_atom i s = halts_before (is_sign sign.Open) i.parens _ s.parens (halts_before is_name name_or_field single halts_field (halts_one _ (λ t. refl) (λ t. refl)))

halts_unary : (i : Inner) → HaltsInner i → Halts (unary_of i)
halts_unary i s = halts_before (is_sign sign.Minus) i.minus (atom_of i) s.minus (halts_atom i s)

halts_sum : (i : Inner) → HaltsInner i → Halts (sum_of i)
halts_sum i s = halts_chain sum_op refl refl (term_of i) (halts_chain term_op refl refl (unary_of i) (halts_unary i s))

halts_comparison : (i : Inner) → HaltsInner i → Halts (comparison_of i)
halts_comparison i s = halts_then (sum_of i) _ (halts_sum i s)
    (λ left. halts_op comparison_op refl refl _ left (λ o. halts_then (sum_of i) _ ((halts_sum i s)) (λ right. halts_done (expr.Two o left right))))

halts_negation : (i : Inner) → HaltsInner i → Halts (negation_of i)
halts_negation i s = halts_before (is_word word.Not) i.nots (comparison_of i) s.nots (halts_comparison i s)

halts_whole : (i : Inner) → HaltsInner i → Halts (expression_of i)
halts_whole i s = halts_chain or_op refl refl (conjunction_of i) (halts_chain and_op refl refl (negation_of i) (halts_negation i s))

halts_deeper : (i : Inner) → HaltsInner i → HaltsInner (deeper i)
halts_deeper i s = record {
  minus = halts_then (line_at (is_sign sign.Minus)) _ (halts_one _ (λ t. refl) (λ t. refl)) (λ line. halts_then (unary_of i) _ ((halts_unary i s)) (λ e. halts_done (expr.Neg e line)));
  nots = halts_then (line_at (is_word word.Not)) _ (halts_one _ (λ t. refl) (λ t. refl)) (λ line. halts_then (negation_of i) _ ((halts_negation i s)) (λ e. halts_done (expr.Not e line)));
  parens = halts_then (line_at (is_sign sign.Open)) _ (halts_one _ (λ t. refl) (λ t. refl))
      (λ line. halts_then (expression_of i) _ ((halts_whole i s)) (λ e. halts_sign sign.Close _ (halts_done (expr.Paren e line))));
}

halts_inner : (more : ℕ) → HaltsInner (inner more)
halts_inner zero = record { minus = halts_refuse Expr; nots = halts_refuse Expr; parens = halts_refuse Expr }
halts_inner (suc more) = halts_deeper (inner more) (halts_inner more)

pub halts_expression : Halts expression
halts_expression = halts_whole (inner 16) (halts_inner 16)

-- ---- statements

halts_keys : Halts keys
halts_keys = (halts_parens (list_of expression) (halts_list expression halts_expression))

halts_keyed : (w : Word) → Halts (keyed w)
halts_keyed w = halts_then (named_behind w) _ (halts_named_behind w) (λ table. halts_word word.Key _ (halts_then keys _ halts_keys (λ key. halts_done (table, key))))

halts_new_value : Halts new_value
halts_new_value = halts_sign sign.Equal expression halts_expression

halts_ended : (statement : Stmt) → Halts (ended sign.Semicolon statement)
halts_ended statement = halts_sign sign.Semicolon _ (halts_done statement)

halts_let : Halts let_statement
halts_let = halts_then (named_behind word.Let) _ (halts_named_behind word.Let) (λ name. halts_then new_value _ halts_new_value (λ e. halts_ended (stmt.Let name e)))

halts_assignment : Halts assignment
halts_assignment = halts_then named _ halts_named (λ name. halts_then new_value _ halts_new_value (λ e. halts_ended (stmt.Assign name e)))

halts_branches : (b : Reader (List Stmt)) → Halts b → Halts (branches b)
halts_branches b kb = halts_then b _ kb (λ body. halts_then (behind (is_word word.Else) (some_block b) (done None)) _
    (halts_behind (is_word word.Else) refl refl (some_block b) _ (halts_then b _ kb (λ body. halts_done _)) (halts_done None)) (λ other. halts_done (body, other)))

halts_if : (b : Reader (List Stmt)) → Halts b → Halts (if_statement b)
halts_if b kb = halts_word word.If _ (halts_then expression _ halts_expression (λ test. halts_then (branches b) _ (halts_branches b kb) (λ both. halts_done _)))

halts_two : (b : Reader (List Stmt)) → Halts b → Halts (two_blocks b)
halts_two b kb = halts_then b _ kb (λ found. halts_word word.Else _ (halts_then b _ kb (λ absent. halts_done (found, absent))))

halts_get : (b : Reader (List Stmt)) → Halts b → Halts (get_statement b)
halts_get b kb = halts_then (named_behind word.Get) _ (halts_named_behind word.Get) (λ name. halts_then (keyed word.From) _ (halts_keyed word.From)
    (λ row. halts_then (two_blocks b) _ (halts_two b kb) (λ both. halts_done _)))

halts_span_end : (w : Word) → Halts (span_end w)
halts_span_end w = halts_behind (is_word w) refl refl _ _ (halts_then expression _ halts_expression (λ e. halts_done _)) (halts_done None)

halts_span : Halts span
halts_span = halts_word word.Span _ (halts_then (named_behind word.On) _ (halts_named_behind word.On) (λ column. halts_then (span_end word.From) _ (halts_span_end word.From) (λ low.
    halts_then (span_end word.To) _ (halts_span_end word.To) (λ high. halts_done (column, low, high)))))

halts_for : (b : Reader (List Stmt)) → Halts b → Halts (for_statement b)
halts_for b kb = halts_then (named_behind word.For) _ (halts_named_behind word.For) (λ name. halts_then (named_behind word.In) _ (halts_named_behind word.In)
    (λ table. halts_then span _ halts_span (λ span. halts_then b _ kb (λ body. halts_done _))))

halts_insert : Halts insert_statement
halts_insert = halts_then (named_behind word.Insert) _ (halts_named_behind word.Insert) (λ table. halts_then keys _ halts_keys (λ values. halts_ended (stmt.Insert table values)))

pub halts_change : Halts change
halts_change = halts_then named _ halts_named (λ column. halts_then new_value _ halts_new_value (λ e. halts_done _))

halts_changes : Halts changes
halts_changes = halts_word word.Set (list_of change) (halts_list change halts_change)

halts_update : Halts update_statement
halts_update = halts_then (keyed word.Update) _ (halts_keyed word.Update) (λ row. halts_then changes _ halts_changes (λ changes. halts_ended (stmt.Update row.0 row.1 changes)))

halts_delete : Halts delete_statement
halts_delete = halts_then (keyed word.Delete) _ (halts_keyed word.Delete) (λ row. halts_ended (stmt.Delete row.0 row.1))

halts_fail : Halts fail_statement
halts_fail = halts_word word.Fail _ (halts_then text_rule _ ((halts_one _ (λ t. refl) (λ t. refl))) (λ text. halts_ended (stmt.Fail text)))

halts_by : (b : Reader (List Stmt)) → Halts b → (h : Head) → Halts (statement_by b h)
halts_by b kb head.Let = halts_let
halts_by b kb head.If = halts_if b kb
halts_by b kb head.Get = halts_get b kb
halts_by b kb head.For = halts_for b kb
halts_by b kb head.Insert = halts_insert
halts_by b kb head.Update = halts_update
halts_by b kb head.Delete = halts_delete
halts_by b kb head.Fail = halts_fail
halts_by b kb head.Name = halts_assignment

pub halts_statement : (b : Reader (List Stmt)) → Halts b → Halts (statement_of b)
halts_statement b kb = halts_first head_of (statement_by b) (halts_by b kb)

pub halts_block : (more : ℕ) → Halts (block_at more)
halts_block zero = (halts_refuse (List Stmt))
halts_block (suc more) = halts_sign sign.OpenBrace _ (halts_then (many_of no_close (statement_of (block_at more))) _
    (halts_many no_close (statement_of (block_at more)) (halts_statement (block_at more) (halts_block more))) (λ body. halts_sign sign.CloseBrace _ (halts_done body)))

-- ---- declarations

halts_table_end : Halts table_end
halts_table_end = halts_word word.Key _ (halts_then names _ halts_names
    (λ key. halts_then (behind (is_word word.Index) names (done [])) _ (halts_behind (is_word word.Index) refl refl names _ halts_names (halts_done []))
    (λ index. halts_sign sign.Semicolon _ (halts_done (key, index)))))

pub halts_table : Halts table
halts_table = halts_then (named_behind word.Table) _ (halts_named_behind word.Table)
    (λ name. halts_then columns _ halts_columns (λ columns. halts_then table_end _ halts_table_end (λ end. halts_done _)))

pub halts_parameters : Halts parameters
halts_parameters = halts_sign sign.Open _ (halts_behind (is_sign sign.Close) refl refl _ _ (halts_done [])
    (halts_then (list_of column) _ ((halts_list column halts_column)) (λ params. halts_sign sign.Close _ (halts_done params))))

pub halts_procedure : Halts procedure
halts_procedure = halts_then (named_behind word.Proc) _ (halts_named_behind word.Proc)
    (λ name. halts_then parameters _ halts_parameters (λ params. halts_then block _ (halts_block 16) (λ body. halts_done _)))

halts_exact : Halts declares_exact
halts_exact = halts_behind (is_word word.Isolation) refl refl _ _ (halts_word word.Exact _ (halts_sign sign.Semicolon _ (halts_done true))) (halts_done false)

-- ---- a whole text

-- where nothing is read, something is left
abbrev pub SomeLeft : {A : Type 0} → Read A → Type 0
SomeLeft (Ok x) = Unit {0}
SomeLeft (Err rest) = has_last rest ≡ true

pub left_then : {A B : Type 0} → (r : Read A) (f : A → Reader B) → has_last (left r) ≡ true → ((x : A) (xs : List Token) → has_last xs ≡ true → SomeLeft (f x xs)) → SomeLeft (on_read r f)
left_then (Ok x) f h k = k x.0 x.1 h
left_then (Err rest) f h k = h

pub left_end : {A : Type 0} → (x : A) (xs : List Token) → has_last xs ≡ true → SomeLeft ((expect is_end >> done x) xs)
left_end x [] h = absurd cc
left_end {A = A} x (t ∷ xs) h =
    elim (is_end t.lexeme) as (λ b. SomeLeft (on_read (if_past {A = Unit {0}} (cond b (Some xs) None) (done tt) (Err (t ∷ xs))) (λ _. done {A = A} x)))
    [ true ↦ tt | false ↦ h ]

application_left : (ts : List Token) → has_last ts ≡ true → SomeLeft (application ts)
application_left ts h =
    left_then (declares_exact ts) _ (halts_exact.ends ts h)
    (λ exact us i. left_then (many_of (is_word word.Table) table us) _ ((halts_many (is_word word.Table) table halts_table).ends us i)
    (λ tables xs k. left_then (many_of (is_word word.Proc) procedure xs) _ ((halts_many (is_word word.Proc) procedure halts_procedure).ends xs k)
    (λ procs ys m. left_end (record { exact = exact; tables = tables; procs = procs }) ys m)))

put_last : (last : Bool) (behind : List Token) → (last ≡ false → has_last behind ≡ true) → (last || has_last (cond last [] behind)) ≡ true
put_last true behind h = refl
put_last false behind h = h refl

piece_last : (p : Piece) (place : Position) (from to : ℕ) (behind : List Token) → (ends p ≡ false → has_last behind ≡ true) → has_last (put p place from to behind) ≡ true
piece_last piece.Newline place from to behind h = h refl
piece_last piece.Blank place from to behind h = h refl
piece_last (piece.Token l) place from to behind h = put_last (is_last l) behind h

tokens_last : (steps total : ℕ) (place : Position) (bytes : List ℕ) → length bytes < steps → has_last (tokens_in steps total place bytes) ≡ true
tokens_last zero total place bytes h = absurd (omega (arith, h))
tokens_last (suc steps) total place [] h = refl
tokens_last (suc steps) total place (b ∷ bs) h =
    piece_last (piece_at (b ∷ bs)).0 place (total - length (b ∷ bs)) (total - length (piece_at (b ∷ bs)).1) _
    (λ _. tokens_last steps total _ (piece_at (b ∷ bs)).1 (omega (arith, piece_shorter b bs, h)))

-- the end of a text, or its first bad token, is among its tokens
pub text_last : (text : List ℕ) → has_last (tokens_of text) ≡ true
text_last text = tokens_last (suc (length text)) (length text) start text (omega arith)

-- where an application is not read, something is left
pub some_left : (text : List ℕ) (rest : List Token) → application (tokens_of text) ≡ Err rest → has_last rest ≡ true
some_left text rest e = subst SomeLeft e (application_left (tokens_of text) (text_last text))

some_refused : (ts rest : List Token) → application ts ≡ Err rest → has_last rest ≡ true → IsRefused ts (position_of rest).line (position_of rest).col
some_refused ts [] e h = absurd cc
some_refused ts (t ∷ rest) e h =
    let suffix = local_application.suffix ts in
    let split : ts ≡ suffix.front ++ (t ∷ rest) = suffix.split ∙ ap (λ r. suffix.front ++ left r) e in
    record {
      front = suffix.front;
      token = t;
      behind = rest;
      split = split;
      has_line = refl;
      has_col = refl;
      blocked = λ any. bad_stays application local_application suffix.front t rest any (ap application (sym split) ∙ e);
    }

-- where an application is not read, never continuation allows the token at the place
pub text_refused : (text : List ℕ) (rest : List Token) → application (tokens_of text) ≡ Err rest → IsRefused (tokens_of text) (position_of rest).line (position_of rest).col
text_refused text rest e = some_refused (tokens_of text) rest e (some_left text rest e)
