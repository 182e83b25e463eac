-- What each rule of the grammar reads has the tokens of its tree.
use Rattle.std.proofs.Common.{◌≡◌, ℕ, zero, suc, List, [], ◌∷◌, ◌++◌, map, Bool, true, false, Option, Some, None, Ok, Err, ◌<◌, length, length-append, arith, refl, sym, ap}
use Rattle.rel_base.specs.declared.value.Value.TheVariants as value
use Rattle.proc_syntax.specs.declared.tree.Named.{Named}
use Rattle.proc_syntax.specs.declared.tree.Change.{Change}
use Rattle.proc_syntax.specs.declared.tree.Expr.{Expr}
use Rattle.proc_syntax.specs.declared.tree.Expr.TheVariants as expr
use Rattle.proc_syntax.specs.declared.tree.Stmt.{Stmt}
use Rattle.proc_syntax.specs.declared.tree.Stmt.TheVariants as stmt
use Rattle.proc_parse.specs.declared.token.Token.{Token}
use Rattle.proc_parse.specs.declared.token.Lexeme.{Lexeme}
use Rattle.proc_parse.specs.declared.token.Lexeme.TheVariants as lexeme
use Rattle.proc_parse.specs.declared.token.Word.{Word}
use Rattle.proc_parse.specs.declared.token.Word.TheVariants as word
use Rattle.proc_parse.specs.declared.token.Sign.TheVariants as sign
use Rattle.proc_parse.specs.declared.statements.Head.{Head}
use Rattle.proc_parse.specs.declared.statements.Head.TheVariants as head
use Rattle.proc_parse.specs.Words.{is_word, is_sign}
use Rattle.proc_parse.specs.Reading.{Read, Reader, on_read, ◌>>=◌, ◌>>◌, done, past, if_past, behind, before, expect}
use Rattle.proc_parse.specs.Lists.{list_from, list_of, many_of}
use Rattle.proc_parse.specs.Phrases.{the_sign, ended, in_parens, name_of, named, named_behind, kind_of_lexeme, kind_of_word, kind_rule, column, columns, names}
use Rattle.proc_parse.specs.Expressions.{comparison_op, or_op, and_op, sum_op, term_op, single_of, single, is_name, field_of, name_or_field, line_where, line_at, Inner, inner, deeper, atom_of, unary_of, term_of, sum_of, comparison_of, negation_of, conjunction_of, expression_of, expression}
use Rattle.proc_parse.specs.Statements.{keys, keyed, new_value, let_statement, assignment, some_block, branches, if_statement, two_blocks, get_statement, some_expression, span_end, span, for_statement, insert_statement, change, changes, update_statement, delete_statement, fail_statement, text_of, text_rule, head_of, statement_by, statement_of, no_close, block_at, block}
use Rattle.proc_parse.specs.Grammar.{table_end, table, more_parameters, parameters, procedure, is_end, declares_exact, application}
use Rattle.proc_print.proofs.Spoken.{Spoken, silent, say_word, say_sign, say_name, say_listed, say_parens, say_all, op_lexeme, say_expr, say_keyed, say_change, say_end, in_turn, say_stmt, kind_word, say_column, say_exact, say_index, say_table, say_procedure, say_app}
use Rattle.proc_print.proofs.SpokenTrees.{said_value, said_now, said_var, said_field, said_not, said_neg, said_paren, said_two, say_body, say_other, said_let, said_assign, said_if, said_get, said_for, said_insert, said_update, said_delete, said_fail}
use Rattle.proc_print.proofs.Tells.{Where, Told, Tells, after, that_word, that_sign, tells_done, tells_refuse, tells_then, tells_heard, tells_behind, tells_before, tells_first, tells_expect, tells_word, tells_sign, tells_one, tells_op, tells_chain, tells_list, tells_many}

tells_parens : {A : Type 0} → (phrase : Reader A) (say : A → Spoken) → Tells silent say phrase
    → Tells silent (λ x r. say_sign sign.Open (say x (say_sign sign.Close r))) (in_parens phrase)
tells_parens phrase say l = tells_sign silent _ sign.Open _ (tells_then _ say _ phrase _ l (λ x. tells_sign _ _ sign.Close _ (tells_done _ _ x (λ r. refl))))

name_told : (l : Lexeme) (line : ℕ) → Where (name_of l line) (λ x. (r : List Lexeme) → l ∷ r ≡ say_name x r)
name_told l line = elim l as (λ l. Where (name_of l line) (λ x. (r : List Lexeme) → l ∷ r ≡ say_name x r)) [ lexeme.Name n ↦ λ r. refl | _ ↦ tt ]

tells_named : Tells silent say_name named
tells_named = tells_one say_name _ (λ t. name_told t.lexeme t.line)

tells_named_behind : (w : Word) → Tells silent (after (say_word w) say_name) (named_behind w)
tells_named_behind w = tells_word silent _ w named (tells_heard (say_word w) say_name named tells_named)

kind_told_word : (w : Word) → Where (kind_of_word w) (λ k. (r : List Lexeme) → lexeme.Word w ∷ r ≡ say_word (kind_word k) r)
kind_told_word w = elim w as (λ w. Where (kind_of_word w) (λ k. (r : List Lexeme) → lexeme.Word w ∷ r ≡ say_word (kind_word k) r))
    [ word.Int ↦ λ r. refl | word.Text ↦ λ r. refl | word.Bool ↦ λ r. refl | word.Bytes ↦ λ r. refl | _ ↦ tt ]

kind_told : (l : Lexeme) → Where (kind_of_lexeme l) (λ k. (r : List Lexeme) → l ∷ r ≡ say_word (kind_word k) r)
kind_told l = elim l as (λ l. Where (kind_of_lexeme l) (λ k. (r : List Lexeme) → l ∷ r ≡ say_word (kind_word k) r)) [ lexeme.Word w ↦ kind_told_word w | _ ↦ tt ]

tells_kind : Tells silent (λ k r. say_word (kind_word k) r) kind_rule
tells_kind = tells_one (λ k r. say_word (kind_word k) r) _ (λ t. kind_told t.lexeme)

tells_column : Tells silent say_column column
tells_column = tells_then silent say_name say_column named _ tells_named (λ name. tells_then _ (λ k r. say_word (kind_word k) r) say_column kind_rule _ tells_kind (λ k. tells_done _ _ (record { name = name; kind = k }) (λ r. refl)))

tells_columns : Tells silent (say_parens say_column) columns
tells_columns = tells_parens (list_of column) (say_listed say_column) (tells_list column say_column tells_column)

tells_names : Tells silent (say_parens say_name) names
tells_names = tells_parens (list_of named) (say_listed say_name) (tells_list named say_name tells_named)

-- ---- expressions

comparison_told : (l : Lexeme) → Where (comparison_op l) (λ o. l ≡ op_lexeme o)
comparison_told l = elim l as (λ l. Where (comparison_op l) (λ o. l ≡ op_lexeme o)) [
  | lexeme.Sign s ↦ elim s as (λ s. Where (comparison_op (lexeme.Sign s)) (λ o. lexeme.Sign s ≡ op_lexeme o))
      [ sign.Equal ↦ refl | sign.NotEqual ↦ refl | sign.Less ↦ refl | sign.LessEqual ↦ refl | sign.Greater ↦ refl | sign.GreaterEqual ↦ refl | _ ↦ tt ]
  | _ ↦ tt
]

or_told : (l : Lexeme) → Where (or_op l) (λ o. l ≡ op_lexeme o)
or_told l = elim l as (λ l. Where (or_op l) (λ o. l ≡ op_lexeme o)) [
  | lexeme.Word w ↦ elim w as (λ w. Where (or_op (lexeme.Word w)) (λ o. lexeme.Word w ≡ op_lexeme o)) [ word.Or ↦ refl | _ ↦ tt ]
  | _ ↦ tt
]

and_told : (l : Lexeme) → Where (and_op l) (λ o. l ≡ op_lexeme o)
and_told l = elim l as (λ l. Where (and_op l) (λ o. l ≡ op_lexeme o)) [
  | lexeme.Word w ↦ elim w as (λ w. Where (and_op (lexeme.Word w)) (λ o. lexeme.Word w ≡ op_lexeme o)) [ word.And ↦ refl | _ ↦ tt ]
  | _ ↦ tt
]

sum_told : (l : Lexeme) → Where (sum_op l) (λ o. l ≡ op_lexeme o)
sum_told l = elim l as (λ l. Where (sum_op l) (λ o. l ≡ op_lexeme o)) [
  | lexeme.Sign s ↦ elim s as (λ s. Where (sum_op (lexeme.Sign s)) (λ o. lexeme.Sign s ≡ op_lexeme o)) [ sign.Plus ↦ refl | sign.Minus ↦ refl | sign.Join ↦ refl | _ ↦ tt ]
  | _ ↦ tt
]

term_told : (l : Lexeme) → Where (term_op l) (λ o. l ≡ op_lexeme o)
term_told l = elim l as (λ l. Where (term_op l) (λ o. l ≡ op_lexeme o)) [
  | lexeme.Sign s ↦ elim s as (λ s. Where (term_op (lexeme.Sign s)) (λ o. lexeme.Sign s ≡ op_lexeme o)) [ sign.Star ↦ refl | sign.Slash ↦ refl | sign.Percent ↦ refl | _ ↦ tt ]
  | _ ↦ tt
]

value_told : (l : Lexeme) (line : ℕ) → Where (single_of l line) (λ e. (r : List Lexeme) → l ∷ r ≡ say_expr e r)
value_told l line = elim l as (λ l. Where (single_of l line) (λ e. (r : List Lexeme) → l ∷ r ≡ say_expr e r)) [
  | lexeme.Int n ↦ λ r. sym (said_value (value.Int n) line r)
  | lexeme.Text text ↦ λ r. sym (said_value (value.Text text) line r)
  | lexeme.Bytes bytes ↦ λ r. sym (said_value (value.Bytes bytes) line r)
  | lexeme.Word w ↦ elim w as (λ w. Where (single_of (lexeme.Word w) line) (λ e. (r : List Lexeme) → lexeme.Word w ∷ r ≡ say_expr e r))
      [ word.Now ↦ λ r. sym (said_now line r) | word.True ↦ λ r. sym (said_value (value.Bool true) line r) | word.False ↦ λ r. sym (said_value (value.Bool false) line r) | _ ↦ tt ]
  | _ ↦ tt
]

tells_single : Tells silent say_expr single
tells_single = tells_one say_expr _ (λ t. value_told t.lexeme t.line)

tells_field : Tells silent say_expr name_or_field
tells_field = tells_then silent say_name say_expr named _ tells_named (λ name.
    tells_behind (is_sign sign.Dot) (lexeme.Sign sign.Dot) (that_sign sign.Dot) _ say_expr (field_of name) (done (expr.Var name))
    (tells_then _ say_name say_expr named _ tells_named (λ column. tells_done _ say_expr (expr.Field name column) (λ r. sym (said_field name column r))))
    (tells_done _ say_expr (expr.Var name) (λ r. sym (said_var name r))))

line_told : (b : Bool) (l m : Lexeme) (line : ℕ) → (b ≡ true → m ≡ l) → Where (line_where b line) (λ _. (r : List Lexeme) → m ∷ r ≡ l ∷ r)
line_told true l m line h = λ r. ap (λ l. l ∷ r) (h refl)
line_told false l m line h = tt

tells_line : (test : Lexeme → Bool) (l : Lexeme) → ((m : Lexeme) → test m ≡ true → m ≡ l) → Tells silent (λ _ r. l ∷ r) (line_at test)
tells_line test l is = tells_one (λ _ r. l ∷ r) _ (λ t. line_told (test t.lexeme) l t.lexeme t.line (is t.lexeme))

record TellsInner (i : Inner) : Type 0 where
  minus : Tells silent say_expr i.minus
  nots : Tells silent say_expr i.nots
  parens : Tells silent say_expr i.parens

tells_atom : (i : Inner) → TellsInner i → Tells silent say_expr (atom_of i)
tells_atom i s = tells_before (is_sign sign.Open) silent say_expr i.parens (before is_name name_or_field single) s.parens (tells_before is_name silent say_expr name_or_field single tells_field tells_single)

tells_unary : (i : Inner) → TellsInner i → Tells silent say_expr (unary_of i)
tells_unary i s = tells_before (is_sign sign.Minus) silent say_expr i.minus (atom_of i) s.minus (tells_atom i s)

tells_sum : (i : Inner) → TellsInner i → Tells silent say_expr (sum_of i)
tells_sum i s = tells_chain sum_op sum_told (term_of i) (tells_chain term_op term_told (unary_of i) (tells_unary i s))

tells_comparison : (i : Inner) → TellsInner i → Tells silent say_expr (comparison_of i)
tells_comparison i s = tells_then silent say_expr say_expr (sum_of i) _ (tells_sum i s) (λ left.
    tells_op (say_expr left) say_expr comparison_op comparison_told (λ o. sum_of i >>= λ right. done (expr.Two o left right)) left
    (λ o. tells_then _ say_expr say_expr (sum_of i) _ (tells_sum i s) (λ right. tells_done _ say_expr (expr.Two o left right) (λ r. sym (said_two o left right r)))) (λ r. refl))

tells_negation : (i : Inner) → TellsInner i → Tells silent say_expr (negation_of i)
tells_negation i s = tells_before (is_word word.Not) silent say_expr i.nots (comparison_of i) s.nots (tells_comparison i s)

tells_whole : (i : Inner) → TellsInner i → Tells silent say_expr (expression_of i)
tells_whole i s = tells_chain or_op or_told (conjunction_of i) (tells_chain and_op and_told (negation_of i) (tells_negation i s))

tells_deeper : (i : Inner) → TellsInner i → TellsInner (deeper i)
tells_deeper i s = record {
  minus = tells_then silent (λ _ r. lexeme.Sign sign.Minus ∷ r) say_expr (line_at (is_sign sign.Minus)) _ (tells_line (is_sign sign.Minus) (lexeme.Sign sign.Minus) (that_sign sign.Minus))
      (λ line. tells_then _ say_expr say_expr (unary_of i) _ (tells_unary i s) (λ e. tells_done _ say_expr (expr.Neg e line) (λ r. sym (said_neg e line r))));
  nots = tells_then silent (λ _ r. lexeme.Word word.Not ∷ r) say_expr (line_at (is_word word.Not)) _ (tells_line (is_word word.Not) (lexeme.Word word.Not) (that_word word.Not))
      (λ line. tells_then _ say_expr say_expr (negation_of i) _ (tells_negation i s) (λ e. tells_done _ say_expr (expr.Not e line) (λ r. sym (said_not e line r))));
  parens = tells_then silent (λ _ r. lexeme.Sign sign.Open ∷ r) say_expr (line_at (is_sign sign.Open)) _ (tells_line (is_sign sign.Open) (lexeme.Sign sign.Open) (that_sign sign.Open))
      (λ line. tells_then _ say_expr say_expr (expression_of i) _ (tells_whole i s) (λ e. tells_sign _ say_expr sign.Close _ (tells_done _ say_expr (expr.Paren e line) (λ r. sym (said_paren e line r)))));
}

tells_inner : (more : ℕ) → TellsInner (inner more)
tells_inner zero = record { minus = tells_refuse silent say_expr; nots = tells_refuse silent say_expr; parens = tells_refuse silent say_expr }
tells_inner (suc more) = tells_deeper (inner more) (tells_inner more)

tells_expression : Tells silent say_expr expression
tells_expression = tells_whole (inner 16) (tells_inner 16)

-- ---- statements

tells_keys : Tells silent (say_parens say_expr) keys
tells_keys = tells_parens (list_of expression) (say_listed say_expr) (tells_list expression say_expr tells_expression)

abbrev say_keyed_behind : Word → Named × List Expr → Spoken
say_keyed_behind w row r = say_word w (say_keyed row.0 row.1 r)

tells_keyed : (w : Word) → Tells silent (say_keyed_behind w) (keyed w)
tells_keyed w = tells_then silent (after (say_word w) say_name) (say_keyed_behind w) (named_behind w) _ (tells_named_behind w) (λ table. tells_word _ (say_keyed_behind w) word.Key _
    (tells_then _ (say_parens say_expr) (say_keyed_behind w) keys _ tells_keys (λ key. tells_done _ (say_keyed_behind w) (table, key) (λ r. refl))))

abbrev say_value : Expr → Spoken
say_value e r = say_sign sign.Equal (say_expr e r)

tells_new_value : Tells silent say_value new_value
tells_new_value = tells_sign silent say_value sign.Equal expression (tells_heard (say_sign sign.Equal) say_expr expression tells_expression)

tells_ended : (heard : Spoken) (statement : Stmt) → ((r : List Lexeme) → heard (say_sign sign.Semicolon r) ≡ say_stmt statement r) → Tells heard say_stmt (ended sign.Semicolon statement)
tells_ended heard statement said = tells_sign heard say_stmt sign.Semicolon _ (tells_done _ say_stmt statement said)

tells_let : Tells silent say_stmt let_statement
tells_let = tells_then _ (after (say_word word.Let) say_name) say_stmt (named_behind word.Let) _ (tells_named_behind word.Let) (λ name. tells_then _ say_value say_stmt new_value _ tells_new_value
    (λ e. tells_ended _ (stmt.Let name e) (λ r. sym (said_let name e r))))

tells_assignment : Tells silent say_stmt assignment
tells_assignment = tells_then _ say_name say_stmt named _ tells_named (λ name. tells_then _ say_value say_stmt new_value _ tells_new_value
    (λ e. tells_ended _ (stmt.Assign name e) (λ r. sym (said_assign name e r))))

tells_else : (b : Reader (List Stmt)) → Tells silent say_body b → Tells silent say_other (behind (is_word word.Else) (some_block b) (done None))
tells_else b l = tells_behind (is_word word.Else) (lexeme.Word word.Else) (that_word word.Else) silent say_other (some_block b) (done None)
    (tells_then _ say_body say_other b _ l (λ body. tells_done _ say_other (Some body) (λ r. refl))) (tells_done _ say_other None (λ r. refl))

abbrev say_branches : List Stmt × Option (List Stmt) → Spoken
say_branches both r = say_body both.0 (say_other both.1 r)

tells_branches : (b : Reader (List Stmt)) → Tells silent say_body b → Tells silent say_branches (branches b)
tells_branches b l = tells_then _ say_body say_branches b _ l (λ body. tells_then _ say_other say_branches (behind (is_word word.Else) (some_block b) (done None)) _ (tells_else b l)
    (λ other. tells_done _ say_branches (body, other) (λ r. refl)))

tells_if : (b : Reader (List Stmt)) → Tells silent say_body b → Tells silent say_stmt (if_statement b)
tells_if b l = tells_word _ say_stmt word.If _ (tells_then _ say_expr say_stmt expression _ tells_expression (λ test. tells_then _ say_branches say_stmt (branches b) _ (tells_branches b l)
    (λ both. tells_done _ say_stmt (stmt.If test both.0 both.1) (λ r. sym (said_if test both.0 both.1 r)))))

abbrev say_two : List Stmt × List Stmt → Spoken
say_two both r = say_body both.0 (say_word word.Else (say_body both.1 r))

tells_two : (b : Reader (List Stmt)) → Tells silent say_body b → Tells silent say_two (two_blocks b)
tells_two b l = tells_then _ say_body say_two b _ l (λ found. tells_word _ say_two word.Else _ (tells_then _ say_body say_two b _ l
    (λ absent. tells_done _ say_two (found, absent) (λ r. refl))))

tells_get : (b : Reader (List Stmt)) → Tells silent say_body b → Tells silent say_stmt (get_statement b)
tells_get b l = tells_then _ (after (say_word word.Get) say_name) say_stmt (named_behind word.Get) _ (tells_named_behind word.Get) (λ name.
    tells_then _ (say_keyed_behind word.From) say_stmt (keyed word.From) _ (tells_keyed word.From) (λ row. tells_then _ say_two say_stmt (two_blocks b) _ (tells_two b l)
    (λ both. tells_done _ say_stmt (stmt.Get name row.0 row.1 both.0 both.1) (λ r. sym (said_get name row.0 row.1 both.0 both.1 r)))))

tells_span_end : (w : Word) → Tells silent (say_end w) (span_end w)
tells_span_end w = tells_behind (is_word w) (lexeme.Word w) (that_word w) silent (say_end w) some_expression (done None)
    (tells_then _ say_expr (say_end w) expression _ tells_expression (λ e. tells_done _ (say_end w) (Some e) (λ r. refl))) (tells_done _ (say_end w) None (λ r. refl))

abbrev say_span : Named × Option Expr × Option Expr → Spoken
say_span span r = say_word word.Span (say_word word.On (say_name span.0 (say_end word.From span.1 (say_end word.To span.2 r))))

tells_span : Tells silent say_span span
tells_span = tells_word silent say_span word.Span _ (tells_then _ (after (say_word word.On) say_name) say_span (named_behind word.On) _ (tells_named_behind word.On) (λ column.
    tells_then _ (say_end word.From) say_span (span_end word.From) _ (tells_span_end word.From) (λ low. tells_then _ (say_end word.To) say_span (span_end word.To) _ (tells_span_end word.To)
    (λ high. tells_done _ say_span (column, low, high) (λ r. refl)))))

tells_for : (b : Reader (List Stmt)) → Tells silent say_body b → Tells silent say_stmt (for_statement b)
tells_for b l = tells_then _ (after (say_word word.For) say_name) say_stmt (named_behind word.For) _ (tells_named_behind word.For) (λ name.
    tells_then _ (after (say_word word.In) say_name) say_stmt (named_behind word.In) _ (tells_named_behind word.In) (λ table. tells_then _ say_span say_stmt span _ tells_span (λ span.
    tells_then _ say_body say_stmt b _ l (λ body. tells_done _ say_stmt (stmt.For name table span.0 span.1 span.2 body) (λ r. sym (said_for name table span.0 span.1 span.2 body r))))))

tells_insert : Tells silent say_stmt insert_statement
tells_insert = tells_then _ (after (say_word word.Insert) say_name) say_stmt (named_behind word.Insert) _ (tells_named_behind word.Insert) (λ table.
    tells_then _ (say_parens say_expr) say_stmt keys _ tells_keys (λ values. tells_ended _ (stmt.Insert table values) (λ r. sym (said_insert table values r))))

tells_change : Tells silent say_change change
tells_change = tells_then _ say_name say_change named _ tells_named (λ column. tells_then _ say_value say_change new_value _ tells_new_value
    (λ e. tells_done _ say_change (record { column = column; value = e }) (λ r. refl)))

abbrev say_changes : List Change → Spoken
say_changes changes r = say_word word.Set (say_listed say_change changes r)

tells_changes : Tells silent say_changes changes
tells_changes = tells_word silent say_changes word.Set (list_of change) (tells_heard (say_word word.Set) (say_listed say_change) (list_of change) (tells_list change say_change tells_change))

tells_update : Tells silent say_stmt update_statement
tells_update = tells_then _ (say_keyed_behind word.Update) say_stmt (keyed word.Update) _ (tells_keyed word.Update) (λ row. tells_then _ say_changes say_stmt changes _ tells_changes
    (λ changes. tells_ended _ (stmt.Update row.0 row.1 changes) (λ r. sym (said_update row.0 row.1 changes r))))

tells_delete : Tells silent say_stmt delete_statement
tells_delete = tells_then _ (say_keyed_behind word.Delete) say_stmt (keyed word.Delete) _ (tells_keyed word.Delete)
    (λ row. tells_ended _ (stmt.Delete row.0 row.1) (λ r. sym (said_delete row.0 row.1 r)))

abbrev say_text : List ℕ → Spoken
say_text text r = lexeme.Text text ∷ r

text_told : (l : Lexeme) → Where (text_of l) (λ text. (r : List Lexeme) → l ∷ r ≡ say_text text r)
text_told l = elim l as (λ l. Where (text_of l) (λ text. (r : List Lexeme) → l ∷ r ≡ say_text text r)) [ lexeme.Text text ↦ λ r. refl | _ ↦ tt ]

tells_fail : Tells silent say_stmt fail_statement
tells_fail = tells_word _ say_stmt word.Fail _ (tells_then _ say_text say_stmt text_rule _ (tells_one say_text _ (λ t. text_told t.lexeme))
    (λ text. tells_ended _ (stmt.Fail text) (λ r. sym (said_fail text r))))

tells_by : (b : Reader (List Stmt)) → Tells silent say_body b → (h : Head) → Tells silent say_stmt (statement_by b h)
tells_by b l head.Let = tells_let
tells_by b l head.If = tells_if b l
tells_by b l head.Get = tells_get b l
tells_by b l head.For = tells_for b l
tells_by b l head.Insert = tells_insert
tells_by b l head.Update = tells_update
tells_by b l head.Delete = tells_delete
tells_by b l head.Fail = tells_fail
tells_by b l head.Name = tells_assignment

turns : (stmts : List Stmt) (r : List Lexeme) → say_all say_stmt stmts r ≡ in_turn (map say_stmt stmts) r
turns [] r = refl
turns (s ∷ stmts) r = ap (λ r. say_stmt s r) (turns stmts r)

tells_block : (more : ℕ) → Tells silent say_body (block_at more)
tells_block zero = tells_refuse silent say_body
tells_block (suc more) = tells_sign silent say_body sign.OpenBrace _ (tells_then _ (say_all say_stmt) say_body (many_of no_close (statement_of (block_at more))) _
    (tells_many no_close (statement_of (block_at more)) say_stmt (tells_first head_of (statement_by (block_at more)) silent say_stmt (tells_by (block_at more) (tells_block more))))
    (λ body. tells_sign _ say_body sign.CloseBrace _ (tells_done _ say_body body (λ r. ap (λ r. lexeme.Sign sign.OpenBrace ∷ r) (turns body (lexeme.Sign sign.CloseBrace ∷ r))))))

-- ---- declarations

-- what is listed is not nothing
abbrev IsSomeRead : {A : Type 0} → Read (List A) → Type 0
IsSomeRead (Ok x) = 0 < length x.0
IsSomeRead (Err rest) = Unit {0}

some_then : {A B : Type 0} → (r : Read A) (f : A → Reader (List B)) → ((x : A) (ts : List Token) → IsSomeRead (f x ts)) → IsSomeRead (on_read r f)
some_then (Ok x) f h = h x.0 x.1
some_then (Err rest) f h = tt

some_past : {A : Type 0} → (o : Option (List Token)) (go : Reader (List A)) (stay : Read (List A)) → ((ts : List Token) → IsSomeRead (go ts)) → IsSomeRead stay → IsSomeRead (if_past o go stay)
some_past None go stay hg hs = hs
some_past (Some ts) go stay hg hs = hg ts

some_list_from : {A : Type 0} → (item : Reader A) (steps : ℕ) (items : List A) (ts : List Token) → IsSomeRead (list_from item steps items ts)
some_list_from item zero items ts = tt
some_list_from item (suc steps) items ts =
    some_then (item ts) (λ x. behind (is_sign sign.Comma) (list_from item steps (items ++ x ∷ [])) (done (items ++ x ∷ [])))
    (λ x rest. some_past (past (is_sign sign.Comma) rest) (list_from item steps (items ++ x ∷ [])) (Ok (items ++ x ∷ [], rest)) (some_list_from item steps (items ++ x ∷ []))
    (omega (arith, length-append items (x ∷ []))))

closed_some : (r : Read (Unit {0})) (x : List Named) → 0 < length x → IsSomeRead (on_read r (λ _. done x))
closed_some (Ok u) x h = h
closed_some (Err rest) x h = tt

keeps_some : (r : Read (List Named)) → IsSomeRead r → IsSomeRead (on_read r (λ x. the_sign sign.Close >> done x))
keeps_some (Ok x) h = closed_some (the_sign sign.Close x.1) x.0 h
keeps_some (Err rest) h = tt

some_names : (ts : List Token) → IsSomeRead (names ts)
some_names ts = some_then (the_sign sign.Open ts) (λ _. list_of named >>= λ x. the_sign sign.Close >> done x)
    (λ _ mid. keeps_some (list_of named mid) (some_list_from named (length mid) [] mid))

index_told : (ts : List Token) (r : Read (List Named)) → IsSomeRead r → Told silent (say_parens say_name) ts r → Told (λ q. lexeme.Word word.Index ∷ q) say_index ts r
index_told ts (Ok ([], rest)) s h = absurd (omega (arith, s))
index_told ts (Ok (x ∷ xs, rest)) s h = ap (λ q. lexeme.Word word.Index ∷ q) h
index_told ts (Err rest) s h = tt

tells_index : Tells silent say_index (behind (is_word word.Index) names (done []))
tells_index = tells_behind (is_word word.Index) (lexeme.Word word.Index) (that_word word.Index) silent say_index names (done [])
    (record { told = λ ts. index_told ts (names ts) (some_names ts) (tells_names.told ts) }) (tells_done silent say_index [] (λ r. refl))

abbrev say_table_end : List Named × List Named → Spoken
say_table_end end r = say_word word.Key (say_parens say_name end.0 (say_index end.1 (say_sign sign.Semicolon r)))

tells_table_end : Tells silent say_table_end table_end
tells_table_end = tells_word silent say_table_end word.Key _ (tells_then _ (say_parens say_name) say_table_end names _ tells_names (λ key.
    tells_then _ say_index say_table_end (behind (is_word word.Index) names (done [])) _ tells_index
    (λ index. tells_sign _ say_table_end sign.Semicolon _ (tells_done _ say_table_end (key, index) (λ r. refl)))))

tells_table : Tells silent say_table table
tells_table = tells_then _ (after (say_word word.Table) say_name) say_table (named_behind word.Table) _ (tells_named_behind word.Table) (λ name.
    tells_then _ (say_parens say_column) say_table columns _ tells_columns (λ columns. tells_then _ say_table_end say_table table_end _ tells_table_end
    (λ end. tells_done _ say_table (record { name = name; columns = columns; key = end.0; index = end.1 }) (λ r. refl))))

-- there may be no parameter, and then nothing is said between the parentheses
tells_parameters : Tells silent (say_parens say_column) parameters
tells_parameters = tells_sign _ (say_parens say_column) sign.Open _ (tells_behind (is_sign sign.Close) (lexeme.Sign sign.Close) (that_sign sign.Close) _ (say_parens say_column) (done []) more_parameters
    (tells_done _ (say_parens say_column) [] (λ r. refl))
    (tells_then _ (say_listed say_column) (say_parens say_column) (list_of column) _ (tells_list column say_column tells_column)
    (λ params. tells_sign _ (say_parens say_column) sign.Close _ (tells_done _ (say_parens say_column) params (λ r. refl)))))

tells_procedure : Tells silent say_procedure procedure
tells_procedure = tells_then _ (after (say_word word.Proc) say_name) say_procedure (named_behind word.Proc) _ (tells_named_behind word.Proc) (λ name.
    tells_then _ (say_parens say_column) say_procedure parameters _ tells_parameters (λ params.
    tells_then _ say_body say_procedure block _ (tells_block 16) (λ body. tells_done _ say_procedure (record { name = name; params = params; body = body }) (λ r. refl))))

that_end : (m : Lexeme) → is_end m ≡ true → m ≡ lexeme.End
that_end m = elim m as (λ m. is_end m ≡ true → m ≡ lexeme.End) [ lexeme.End ↦ λ h. refl | _ ↦ λ h. absurd cc ]

tells_exact : Tells silent say_exact declares_exact
tells_exact = tells_behind (is_word word.Isolation) (lexeme.Word word.Isolation) (that_word word.Isolation) silent say_exact _ (done false)
    (tells_word _ say_exact word.Exact _ (tells_sign _ say_exact sign.Semicolon _ (tells_done _ say_exact true (λ r. refl))))
    (tells_done silent say_exact false (λ r. refl))

pub tells_application : Tells silent say_app application
tells_application = tells_then _ say_exact say_app declares_exact _ tells_exact
    (λ exact. tells_then _ (say_all say_table) say_app (many_of (is_word word.Table) table) _ (tells_many (is_word word.Table) table say_table tells_table)
    (λ tables. tells_then _ (say_all say_procedure) say_app (many_of (is_word word.Proc) procedure) _ (tells_many (is_word word.Proc) procedure say_procedure tells_procedure)
    (λ procs. tells_then _ (λ _ r. lexeme.End ∷ r) say_app (expect is_end) _ (tells_expect is_end lexeme.End that_end)
    (λ _. tells_done _ say_app (record { exact = exact; tables = tables; procs = procs }) (λ r. refl)))))
