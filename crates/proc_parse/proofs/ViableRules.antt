-- What each rule of the grammar has read where it stops goes on to a phrase.
use Rattle.std.proofs.Common.{◌≡◌, ℕ, zero, suc, List, [], ◌∷◌, Bool, true, false, Option, Some, None, refl, ap, pos}
use Rattle.std.specs.Prelude.{not}
use denote.Enum.Bare.{same_true}
use Rattle.rel_base.specs.declared.value.Kind.TheVariants as kind
use Rattle.rel_base.specs.declared.value.Value.TheVariants as value
use Rattle.proc_syntax.specs.declared.tree.Named.{Named}
use Rattle.proc_syntax.specs.declared.tree.Op.{Op}
use Rattle.proc_syntax.specs.declared.tree.Expr.TheVariants as expr
use Rattle.proc_syntax.specs.declared.tree.Stmt.{Stmt}
use Rattle.proc_syntax.specs.declared.tree.Stmt.TheVariants as stmt
use Rattle.proc_parse.specs.contracts.token.Sign as a_sign
use Rattle.proc_parse.specs.declared.token.Token.{Token}
use Rattle.proc_parse.specs.declared.token.Lexeme.{Lexeme}
use Rattle.proc_parse.specs.declared.token.Lexeme.TheVariants as lexeme
use Rattle.proc_parse.specs.declared.token.Word.{Word}
use Rattle.proc_parse.specs.declared.token.Word.TheVariants as word
use Rattle.proc_parse.specs.declared.token.Sign.{Sign}
use Rattle.proc_parse.specs.declared.token.Sign.TheVariants as sign
use Rattle.proc_parse.specs.declared.statements.Head.{Head}
use Rattle.proc_parse.specs.declared.statements.Head.TheVariants as head
use Rattle.proc_parse.specs.Words.{is_word, is_sign}
use Rattle.proc_parse.specs.Reading.{Reader, ◌>>=◌, ◌>>◌, done, refuse, behind, before, Shortens}
use Rattle.proc_parse.specs.Lists.{list_of, many_of}
use Rattle.proc_parse.specs.Phrases.{the_word, the_sign, ended, in_parens, named, named_behind, column, columns, names}
use Rattle.proc_parse.specs.Expressions.{comparison_op, or_op, and_op, sum_op, term_op, single, is_name, field_of, name_or_field, Inner, inner, deeper, atom_of, unary_of, term_of, sum_of, comparison_of, negation_of, conjunction_of, expression_of, expression}
use Rattle.proc_parse.specs.Statements.{keys, keyed, new_value, let_statement, assignment, some_block, branches, if_statement, two_blocks, get_statement, some_expression, span_end, span, for_statement, insert_statement, change, changes, update_statement, delete_statement, fail_statement, head_of, statement_by, statement_of, no_close, block_at}
use Rattle.proc_parse.specs.Grammar.{table_end, table, more_parameters, parameters, procedure_of, procedure}
use Rattle.proc_parse.specs.Shorter.{ShortInner, short_inner, shortens_field, shortens_atom, shortens_comparison, shortens_one, shortens_before, shortens_sign, shortens_then, shortens_list, shortens_named, shortens_column, shortens_expression, shortens_change, shortens_statement, keeps_done, keeps_sign, keeps_block}
use Rattle.proc_parse.proofs.Viable.{Viable, Whole, any, viable_refuse, whole_done, whole_then, whole_before, whole_maybe, whole_same, whole_any}
use Rattle.proc_parse.proofs.ViableForms.{whole_one, whole_expect, whole_behind, whole_ahead, never_empty, viable_first, whole_op, whole_chain, whole_list, whole_many}

-- ---- tokens

abbrev pub token : Lexeme → Token
token l = record { lexeme = l; line = 0; col = 0; start = 0; end = 0 }

abbrev word_token : Word → Token
word_token w = token (lexeme.Word w)

abbrev sign_token : Sign → Token
sign_token s = token (lexeme.Sign s)

abbrev name_token : Token
name_token = token (lexeme.Name (97 ∷ []))

abbrev zero_token : Token
zero_token = token (lexeme.Int (pos 0))

abbrev some_name : Named
some_name = record { name = 97 ∷ []; line = 0 }

-- what may follow an expression or a statement
abbrev pub closes : Lexeme → Bool
closes (lexeme.Sign sign.Semicolon) = true
closes (lexeme.Sign sign.Close) = true
closes (lexeme.Sign sign.OpenBrace) = true
closes (lexeme.Sign sign.CloseBrace) = true
closes _ = false

sign_closes : (P : Lexeme → Type 0) → P (lexeme.Sign sign.Semicolon) → P (lexeme.Sign sign.Close) → P (lexeme.Sign sign.OpenBrace) → P (lexeme.Sign sign.CloseBrace)
    → (s : Sign) → closes (lexeme.Sign s) ≡ true → P (lexeme.Sign s)
sign_closes P a b c d s = elim s as (λ s. closes (lexeme.Sign s) ≡ true → P (lexeme.Sign s))
    [ sign.Semicolon ↦ λ h. a | sign.Close ↦ λ h. b | sign.OpenBrace ↦ λ h. c | sign.CloseBrace ↦ λ h. d | _ ↦ λ h. absurd cc ]

when_closes : (P : Lexeme → Type 0) → P (lexeme.Sign sign.Semicolon) → P (lexeme.Sign sign.Close) → P (lexeme.Sign sign.OpenBrace) → P (lexeme.Sign sign.CloseBrace)
    → (l : Lexeme) → closes l ≡ true → P l
when_closes P a b c d (lexeme.Word v) h = absurd cc
when_closes P a b c d (lexeme.Name v) h = absurd cc
when_closes P a b c d (lexeme.Int v) h = absurd cc
when_closes P a b c d (lexeme.Text v) h = absurd cc
when_closes P a b c d (lexeme.Bytes v) h = absurd cc
when_closes P a b c d (lexeme.Sign s) h = sign_closes P a b c d s h
when_closes P a b c d lexeme.Bad h = absurd cc
when_closes P a b c d lexeme.End h = absurd cc

no_op : (ops : Lexeme → Option Op) → ops (lexeme.Sign sign.Semicolon) ≡ None → ops (lexeme.Sign sign.Close) ≡ None → ops (lexeme.Sign sign.OpenBrace) ≡ None → ops (lexeme.Sign sign.CloseBrace) ≡ None
    → (l : Lexeme) → closes l ≡ true → ops l ≡ None
no_op ops = when_closes (λ l. ops l ≡ None)

no_test : (test : Lexeme → Bool) → test (lexeme.Sign sign.Semicolon) ≡ false → test (lexeme.Sign sign.Close) ≡ false → test (lexeme.Sign sign.OpenBrace) ≡ false → test (lexeme.Sign sign.CloseBrace) ≡ false
    → (l : Lexeme) → closes l ≡ true → test l ≡ false
no_test test = when_closes (λ l. test l ≡ false)

own_word : (w : Word) → is_word w (lexeme.Word w) ≡ true
own_word w = elim w as (λ w. is_word w (lexeme.Word w) ≡ true) [ word.Table ↦ refl | _ ↦ refl ]

own_sign : (s : Sign) → is_sign s (lexeme.Sign s) ≡ true
own_sign s = elim s as (λ s. is_sign s (lexeme.Sign s) ≡ true) [ sign.Open ↦ refl | _ ↦ refl ]

whole_word : {A : Type 0} {p q : Reader A} {stop : Lexeme → Bool} {first : Option Token} (w : Word) → Whole p q stop first → Whole (the_word w >> p) (the_word w >> q) stop (Some (word_token w))
whole_word {p = p} {q = q} w h = whole_then {f = λ _. p} {g = λ _. q} (whole_expect (is_word w) (word_token w) (own_word w)) (λ _. h)

whole_sign : {A : Type 0} {p q : Reader A} {stop : Lexeme → Bool} {first : Option Token} (s : Sign) → Whole p q stop first → Whole (the_sign s >> p) (the_sign s >> q) stop (Some (sign_token s))
whole_sign {p = p} {q = q} s h = whole_then {f = λ _. p} {g = λ _. q} (whole_expect (is_sign s) (sign_token s) (own_sign s)) (λ _. h)

whole_parens : {A : Type 0} (phrase : Reader A) (t : Token) → Whole phrase phrase closes (Some t) → Whole (in_parens phrase) (in_parens phrase) any (Some (sign_token sign.Open))
whole_parens phrase t h = whole_sign sign.Open
    (whole_before closes h (λ x. whole_sign sign.Close (whole_done any x)) (λ x. shortens_sign sign.Close (done x) (keeps_done x)) refl)

whole_named : Whole named named any (Some name_token)
whole_named = whole_one _ name_token some_name refl

whole_named_behind : (w : Word) → Whole (named_behind w) (named_behind w) any (Some (word_token w))
whole_named_behind w = whole_word w whole_named

whole_column : Whole column column any (Some name_token)
whole_column = whole_then whole_named (λ name. whole_then (whole_one _ (word_token word.Int) kind.Int refl) (λ k. whole_done any (record { name = name; kind = k })))

no_comma : (l : Lexeme) → closes l ≡ true → is_sign sign.Comma l ≡ false
no_comma = no_test (is_sign sign.Comma) refl refl refl refl

whole_column_list : Whole (list_of column) (list_of column) closes (Some name_token)
whole_column_list = whole_list column shortens_column closes no_comma name_token (whole_any closes whole_column)

whole_columns : Whole columns columns any (Some (sign_token sign.Open))
whole_columns = whole_parens (list_of column) name_token whole_column_list

whole_names : Whole names names any (Some (sign_token sign.Open))
whole_names = whole_parens (list_of named) name_token (whole_list named shortens_named closes no_comma name_token (whole_any closes whole_named))

viable_of : {A : Type 0} {p q : Reader A} {stop : Lexeme → Bool} {first : Option Token} → Whole p q stop first → Viable p q stop
viable_of w = w.viable

-- ---- expressions

pub record ViableInner (i : Inner) : Type 0 where
  pub minus : Viable i.minus i.minus closes
  pub nots : Viable i.nots i.nots closes
  pub parens : Viable i.parens i.parens closes

abbrev only_zero : Option Token
only_zero = Some zero_token

whole_field : (name : Named) → Whole (field_of name) (field_of name) closes (Some name_token)
whole_field name = whole_then whole_named (λ column. whole_done closes (expr.Field name column))

whole_name : Whole name_or_field name_or_field closes (Some name_token)
whole_name = whole_then whole_named (λ name.
    whole_behind (is_sign sign.Dot) (field_of name) (done (expr.Var name)) (field_of name) (done (expr.Var name)) closes
    (whole_field name) (whole_done closes (expr.Var name)) (λ ts x e. no_test (is_sign sign.Dot) refl refl refl refl) (λ s k. no_test (is_sign sign.Dot) refl refl refl refl s.lexeme k))

whole_single : Whole single single closes only_zero
whole_single = whole_any closes (whole_one _ zero_token (expr.Value (value.Int (pos 0)) 0) refl)

whole_plain : Whole (before is_name name_or_field single) (before is_name name_or_field single) closes only_zero
whole_plain = whole_ahead is_name name_or_field single name_or_field single closes whole_name.viable shortens_field whole_single
    (never_empty is_name single closes (shortens_one _)) (λ s k. refl)

shortens_plain : Shortens (before is_name name_or_field single)
shortens_plain = shortens_before is_name name_or_field single shortens_field (shortens_one _)

whole_atom : (i : Inner) → ShortInner i → ViableInner i → Whole (atom_of i) (atom_of i) closes only_zero
whole_atom i s v = whole_ahead (is_sign sign.Open) i.parens (before is_name name_or_field single) i.parens (before is_name name_or_field single) closes v.parens s.parens whole_plain
    (never_empty (is_sign sign.Open) (before is_name name_or_field single) closes shortens_plain) (λ s k. refl)

whole_unary : (i : Inner) → ShortInner i → ViableInner i → Whole (unary_of i) (unary_of i) closes only_zero
whole_unary i s v = whole_ahead (is_sign sign.Minus) i.minus (atom_of i) i.minus (atom_of i) closes v.minus s.minus (whole_atom i s v)
    (never_empty (is_sign sign.Minus) (atom_of i) closes (shortens_atom i s)) (λ s k. refl)

whole_term : (i : Inner) → ShortInner i → ViableInner i → Whole (term_of i) (term_of i) closes only_zero
whole_term i s v = whole_chain term_op closes (no_op term_op refl refl refl refl) only_zero (unary_of i) (whole_unary i s v)

whole_sum : (i : Inner) → ShortInner i → ViableInner i → Whole (sum_of i) (sum_of i) closes only_zero
whole_sum i s v = whole_chain sum_op closes (no_op sum_op refl refl refl refl) only_zero (term_of i) (whole_term i s v)

whole_comparison : (i : Inner) → ShortInner i → ViableInner i → Whole (comparison_of i) (comparison_of i) closes only_zero
whole_comparison i s v = whole_maybe (whole_sum i s v) (λ left.
    whole_op comparison_op closes (no_op comparison_op refl refl refl refl) only_zero
    (λ o. sum_of i >>= λ right. done (expr.Two o left right)) (λ o. sum_of i >>= λ right. done (expr.Two o left right)) left
    (λ o. whole_maybe (whole_sum i s v) (λ right. whole_done closes (expr.Two o left right))))

whole_negation : (i : Inner) → ShortInner i → ViableInner i → Whole (negation_of i) (negation_of i) closes only_zero
whole_negation i s v = whole_ahead (is_word word.Not) i.nots (comparison_of i) i.nots (comparison_of i) closes v.nots s.nots (whole_comparison i s v)
    (never_empty (is_word word.Not) (comparison_of i) closes (shortens_comparison i s)) (λ s k. refl)

whole_whole : (i : Inner) → ShortInner i → ViableInner i → Whole (expression_of i) (expression_of i) closes only_zero
whole_whole i s v = whole_chain or_op closes (no_op or_op refl refl refl refl) only_zero (conjunction_of i)
    (whole_chain and_op closes (no_op and_op refl refl refl refl) only_zero (negation_of i) (whole_negation i s v))

viable_deeper : (i : Inner) → ShortInner i → ViableInner i → ViableInner (deeper i)
viable_deeper i s v = record {
  minus = viable_of (whole_then (whole_one _ (sign_token sign.Minus) 0 refl) (λ line. whole_maybe (whole_unary i s v) (λ e. whole_done closes (expr.Neg e line))));
  nots = viable_of (whole_then (whole_one _ (word_token word.Not) 0 refl) (λ line. whole_maybe (whole_negation i s v) (λ e. whole_done closes (expr.Not e line))));
  parens = viable_of (whole_then (whole_one _ (sign_token sign.Open) 0 refl)
      (λ line. whole_same (whole_whole i s v) (λ e. whole_sign sign.Close (whole_done closes (expr.Paren e line))) refl));
}

viable_inner : (more : ℕ) → ViableInner (inner more)
viable_inner zero = record { minus = viable_refuse refuse closes; nots = viable_refuse refuse closes; parens = viable_refuse refuse closes }
viable_inner (suc more) = viable_deeper (inner more) (short_inner more) (viable_inner more)

whole_expression : Whole expression expression closes only_zero
whole_expression = whole_whole (inner 16) (short_inner 16) (viable_inner 16)

-- ---- statements

whole_keys : Whole keys keys any (Some (sign_token sign.Open))
whole_keys = whole_parens (list_of expression) zero_token (whole_list expression shortens_expression closes no_comma zero_token whole_expression)

whole_keyed : (w : Word) → Whole (keyed w) (keyed w) any (Some (word_token w))
whole_keyed w = whole_then (whole_named_behind w) (λ table. whole_word word.Key (whole_then whole_keys (λ key. whole_done any (table, key))))

whole_new_value : Whole new_value new_value closes (Some (sign_token sign.Equal))
whole_new_value = whole_sign sign.Equal whole_expression

whole_ended : (statement : Stmt) → Whole (ended sign.Semicolon statement) (ended sign.Semicolon statement) closes (Some (sign_token sign.Semicolon))
whole_ended statement = whole_sign sign.Semicolon (whole_done closes statement)

whole_let : Viable let_statement let_statement closes
whole_let = viable_of (whole_then (whole_named_behind word.Let) (λ name. whole_same whole_new_value (λ e. whole_ended (stmt.Let name e)) refl))

whole_assignment : Viable assignment assignment closes
whole_assignment = viable_of (whole_then whole_named (λ name. whole_same whole_new_value (λ e. whole_ended (stmt.Assign name e)) refl))

abbrev braces : Option Token
braces = Some (sign_token sign.OpenBrace)

whole_else : (b c : Reader (List Stmt)) → Whole b c any braces
    → Whole (behind (is_word word.Else) (some_block b) (done None)) (behind (is_word word.Else) (some_block c) (done None)) closes None
whole_else b c w = whole_behind (is_word word.Else) (some_block b) (done None) (some_block c) (done None) closes
    (whole_then w (λ body. whole_done closes (Some body))) (whole_done closes None) (λ ts x e. no_test (is_word word.Else) refl refl refl refl) (λ s k. no_test (is_word word.Else) refl refl refl refl s.lexeme k)

whole_branches : (b c : Reader (List Stmt)) → Whole b c any braces → Whole (branches b) (branches c) closes braces
whole_branches b c w = whole_then w (λ body. whole_maybe (whole_else b c w) (λ other. whole_done closes (body, other)))

whole_if : (b c : Reader (List Stmt)) → Whole b c any braces → Viable (if_statement b) (if_statement c) closes
whole_if b c w = viable_of (whole_word word.If (whole_same whole_expression (λ test. whole_maybe (whole_branches b c w) (λ both. whole_done closes (stmt.If test both.0 both.1))) refl))

whole_two : (b c : Reader (List Stmt)) → Whole b c any braces → Whole (two_blocks b) (two_blocks c) any braces
whole_two b c w = whole_then w (λ found. whole_word word.Else (whole_then w (λ absent. whole_done any (found, absent))))

whole_get : (b c : Reader (List Stmt)) → Whole b c any braces → Viable (get_statement b) (get_statement c) closes
whole_get b c w = viable_of (whole_then (whole_named_behind word.Get) (λ name. whole_then (whole_keyed word.From)
    (λ row. whole_then (whole_two b c w) (λ both. whole_done closes (stmt.Get name row.0 row.1 both.0 both.1)))))

whole_span_end : (w : Word) → ((l : Lexeme) → closes l ≡ true → is_word w l ≡ false) → Whole (span_end w) (span_end w) closes None
whole_span_end w quiet = whole_behind (is_word w) some_expression (done None) some_expression (done None) closes
    (whole_maybe whole_expression (λ e. whole_done closes (Some e))) (whole_done closes None) (λ ts x e. quiet) (λ s k. quiet s.lexeme k)

whole_span : Whole span span closes (Some (word_token word.Span))
whole_span = whole_word word.Span (whole_then (whole_named_behind word.On) (λ column.
    whole_maybe (whole_span_end word.From (no_test (is_word word.From) refl refl refl refl)) (λ low.
    whole_maybe (whole_span_end word.To (no_test (is_word word.To) refl refl refl refl)) (λ high. whole_done closes (column, low, high)))))

whole_for : (b c : Reader (List Stmt)) → Whole b c any braces → Viable (for_statement b) (for_statement c) closes
whole_for b c w = viable_of (whole_then (whole_named_behind word.For) (λ name. whole_then (whole_named_behind word.In) (λ table.
    whole_same whole_span (λ span. whole_then w (λ body. whole_done closes (stmt.For name table span.0 span.1 span.2 body))) refl)))

whole_insert : Viable insert_statement insert_statement closes
whole_insert = viable_of (whole_then (whole_named_behind word.Insert) (λ table. whole_then whole_keys (λ values. whole_ended (stmt.Insert table values))))

whole_change : Whole change change closes (Some name_token)
whole_change = whole_then whole_named (λ column. whole_maybe whole_new_value (λ e. whole_done closes (record { column = column; value = e })))

whole_changes : Whole changes changes closes (Some (word_token word.Set))
whole_changes = whole_word word.Set (whole_list change shortens_change closes no_comma name_token whole_change)

whole_update : Viable update_statement update_statement closes
whole_update = viable_of (whole_then (whole_keyed word.Update) (λ row. whole_same whole_changes (λ changes. whole_ended (stmt.Update row.0 row.1 changes)) refl))

whole_delete : Viable delete_statement delete_statement closes
whole_delete = viable_of (whole_then (whole_keyed word.Delete) (λ row. whole_ended (stmt.Delete row.0 row.1)))

whole_fail : Viable fail_statement fail_statement closes
whole_fail = viable_of (whole_word word.Fail (whole_then (whole_one _ (token (lexeme.Text [])) [] refl) (λ text. whole_ended (stmt.Fail text))))

viable_by : (b c : Reader (List Stmt)) → Whole b c any braces → (h : Head) → Viable (statement_by b h) (statement_by c h) closes
viable_by b c w head.Let = whole_let
viable_by b c w head.If = whole_if b c w
viable_by b c w head.Get = whole_get b c w
viable_by b c w head.For = whole_for b c w
viable_by b c w head.Insert = whole_insert
viable_by b c w head.Update = whole_update
viable_by b c w head.Delete = whole_delete
viable_by b c w head.Fail = whole_fail
viable_by b c w head.Name = whole_assignment

brace_closes : (l : Lexeme) → is_sign sign.CloseBrace l ≡ true → closes l ≡ true
brace_closes (lexeme.Word v) h = absurd cc
brace_closes (lexeme.Name v) h = absurd cc
brace_closes (lexeme.Int v) h = absurd cc
brace_closes (lexeme.Text v) h = absurd cc
brace_closes (lexeme.Bytes v) h = absurd cc
brace_closes (lexeme.Sign v) h = ap (λ s. closes (lexeme.Sign s)) (same_true a_sign.the_type tt v sign.CloseBrace h)
brace_closes lexeme.Bad h = absurd cc
brace_closes lexeme.End h = absurd cc

whole_body : (more : ℕ) → Whole (block_at more) (block_at (suc more)) any braces
    → Whole (many_of no_close (statement_of (block_at more))) (many_of no_close (statement_of (block_at (suc more)))) (is_sign sign.CloseBrace) None
whole_body more w = whole_many no_close (statement_of (block_at more)) (statement_of (block_at (suc more)))
    (shortens_statement (block_at more) (keeps_block more)) (shortens_statement (block_at (suc more)) (keeps_block (suc more))) (is_sign sign.CloseBrace) (λ l k. ap not k) closes brace_closes
    (viable_first head_of (statement_by (block_at more)) (statement_by (block_at (suc more))) closes (λ h t u. refl) (viable_by (block_at more) (block_at (suc more)) w)
    (shortens_statement (block_at more) (keeps_block more)))

pub whole_block : (more : ℕ) → Whole (block_at more) (block_at (suc more)) any braces
whole_block zero = record { viable = viable_refuse (block_at 1) any; phrase = record { tokens = sign_token sign.OpenBrace ∷ sign_token sign.CloseBrace ∷ []; tree = []; starts = λ s. refl; reads = λ s k. record { reads = λ ys. refl } } }
whole_block (suc more) = whole_sign sign.OpenBrace (whole_before (is_sign sign.CloseBrace) (whole_body more (whole_block more))
    (λ body. whole_sign sign.CloseBrace (whole_done any body)) (λ body. shortens_sign sign.CloseBrace (done body) (keeps_done body)) refl)

-- ---- declarations

whole_index : Whole (behind (is_word word.Index) names (done [])) (behind (is_word word.Index) names (done [])) closes None
whole_index = whole_behind (is_word word.Index) names (done []) names (done []) closes
    (whole_any closes whole_names) (whole_done closes []) (λ ts x e. no_test (is_word word.Index) refl refl refl refl) (λ s k. no_test (is_word word.Index) refl refl refl refl s.lexeme k)

whole_table_end : Whole table_end table_end any (Some (word_token word.Key))
whole_table_end = whole_word word.Key (whole_then whole_names (λ key.
    whole_before closes whole_index (λ index. whole_sign sign.Semicolon (whole_done any (key, index))) (λ index. shortens_sign sign.Semicolon _ (keeps_done (key, index))) refl))

pub viable_table : Viable table table any
viable_table = viable_of (whole_then (whole_named_behind word.Table) (λ name. whole_then whole_columns (λ columns. whole_then whole_table_end (λ end.
    whole_done any (record { name = name; columns = columns; key = end.0; index = end.1 })))))

whole_more_parameters : Whole more_parameters more_parameters any (Some name_token)
whole_more_parameters = whole_before closes whole_column_list (λ params. whole_sign sign.Close (whole_done any params)) (λ params. shortens_sign sign.Close (done params) (keeps_done params)) refl

whole_parameters : Whole parameters parameters any (Some (sign_token sign.Open))
whole_parameters = whole_sign sign.Open (whole_behind (is_sign sign.Close) (done []) more_parameters (done []) more_parameters any
    (whole_done any []) whole_more_parameters
    (never_empty (is_sign sign.Close) more_parameters any (shortens_then (list_of column) _ (shortens_list column shortens_column) (λ params. keeps_sign sign.Close _ (keeps_done params)))) (λ s k. refl))

-- what follows `isolation`
pub whole_exact : Whole (the_word word.Exact >> ended sign.Semicolon true) (the_word word.Exact >> ended sign.Semicolon true) any (Some (word_token word.Exact))
whole_exact = whole_word word.Exact (whole_sign sign.Semicolon (whole_done any true))

pub viable_procedure : Viable procedure (procedure_of (block_at 17)) any
viable_procedure = viable_of (whole_then (whole_named_behind word.Proc) (λ name. whole_then whole_parameters (λ params. whole_then (whole_block 16) (λ body.
    whole_done any (record { name = name; params = params; body = body })))))
