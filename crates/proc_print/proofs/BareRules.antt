-- Each rule of the grammar looks at no place.
use Rattle.std.proofs.Common.{◌≡◌, ℕ, zero, suc, List, [], ◌∷◌, map, Bool, true, false, cond, Option, Some, None, refl, sym, ap}
use Rattle.std.specs.Option.{option_map}
use Rattle.rel_base.specs.declared.value.Kind.{Kind}
use Rattle.rel_base.specs.declared.value.Value.{Value}
use Rattle.proc_syntax.specs.declared.tree.Named.{Named}
use Rattle.proc_syntax.specs.declared.tree.Expr.{Expr}
use Rattle.proc_syntax.specs.declared.tree.Expr.TheVariants as expr
use Rattle.proc_syntax.specs.declared.tree.Stmt.{Stmt}
use Rattle.proc_syntax.specs.declared.tree.Stmt.TheVariants as stmt
use Rattle.proc_parse.specs.declared.token.Token.{Token}
use Rattle.proc_parse.specs.declared.token.Lexeme.{Lexeme}
use Rattle.proc_parse.specs.declared.token.Lexeme.TheVariants as lexeme
use Rattle.proc_parse.specs.declared.token.Word.{Word}
use Rattle.proc_parse.specs.declared.token.Word.TheVariants as word
use Rattle.proc_parse.specs.declared.token.Sign.{Sign}
use Rattle.proc_parse.specs.declared.token.Sign.TheVariants as sign
use Rattle.proc_parse.specs.declared.statements.Head.{Head}
use Rattle.proc_parse.specs.declared.statements.Head.TheVariants as head
use Rattle.proc_parse.specs.Words.{is_word, is_sign}
use Rattle.proc_parse.specs.Reading.{Reader, ◌>>=◌, ◌>>◌, done, behind, before, expect}
use Rattle.proc_parse.specs.Lists.{list_of, many_of}
use Rattle.proc_parse.specs.Phrases.{the_word, the_sign, ended, in_parens, name_of, named, named_behind, kind_rule, column, columns, names}
use Rattle.proc_parse.specs.Expressions.{comparison_op, or_op, and_op, sum_op, term_op, value_of, literal_of, single, is_name, field_of, name_or_field, line_where, line_at, Inner, inner, deeper, atom_of, unary_of, term_of, sum_of, comparison_of, negation_of, conjunction_of, expression_of, expression}
use Rattle.proc_parse.specs.Statements.{keys, keyed, new_value, let_statement, assignment, some_block, branches, if_statement, two_blocks, get_statement, some_expression, span_end, span, for_statement, insert_statement, change, changes, update_statement, delete_statement, fail_statement, text_rule, head_of, statement_by, statement_of, no_close, block_at, block}
use Rattle.proc_parse.specs.Grammar.{table_end, table, more_parameters, parameters, procedure, is_end, declares_exact, application}
use Rattle.proc_print.specs.Unlined.{unlined_name, unlined_column, unlined_expr, unlined_change, unlined_stmt, unlined_table, unlined_procedure, unlined}
use Rattle.proc_print.proofs.UnlinedTrees.{unlined_value, unlined_now, unlined_var, unlined_field, unlined_not, unlined_neg, unlined_paren, unlined_two, unlined_let, unlined_assign, unlined_other, unlined_if, unlined_get, unlined_for, unlined_insert, unlined_update, unlined_delete, unlined_fail}
use Rattle.proc_print.proofs.Bare.{bared, IsBare, same_unit, bare_done, bare_refuse, bare_then, bare_behind, bare_before, bare_first, bare_one, bare_expect, bare_op, bare_chain, bare_list, bare_many}

bare_word : {A : Type 0} → (un : A → A) (w : Word) (next next' : Reader A) → IsBare un next next' → IsBare un (the_word w >> next) (the_word w >> next')
bare_word un w next next' h = bare_then same_unit un (the_word w) (the_word w) (λ _. next) (λ _. next') (bare_expect (is_word w)) (λ _. h)

bare_sign : {A : Type 0} → (un : A → A) (s : Sign) (next next' : Reader A) → IsBare un next next' → IsBare un (the_sign s >> next) (the_sign s >> next')
bare_sign un s next next' h = bare_then same_unit un (the_sign s) (the_sign s) (λ _. next) (λ _. next') (bare_expect (is_sign s)) (λ _. h)

bare_parens : {A : Type 0} → (un : A → A) (phrase : Reader A) → IsBare un phrase phrase → IsBare un (in_parens phrase) (in_parens phrase)
bare_parens un phrase h = bare_sign un sign.Open _ _ (bare_then un un phrase phrase _ _ h (λ x. bare_sign un sign.Close _ _ (bare_done un x (un x) refl)))

name_bare : (l : Lexeme) (line : ℕ) → name_of l 0 ≡ option_map unlined_name (name_of l line)
name_bare l line = elim l as (λ l. name_of l 0 ≡ option_map unlined_name (name_of l line)) [ lexeme.Name n ↦ refl | _ ↦ refl ]

bare_named : IsBare unlined_name named named
bare_named = bare_one unlined_name _ (λ t. name_bare t.lexeme t.line)

bare_named_behind : (w : Word) → IsBare unlined_name (named_behind w) (named_behind w)
bare_named_behind w = bare_word unlined_name w named named bare_named

abbrev same_kind : Kind → Kind
same_kind k = k

option_same : {A : Type 0} → (o : Option A) → o ≡ option_map (λ x. x) o
option_same None = refl
option_same (Some x) = refl

bare_kind : IsBare same_kind kind_rule kind_rule
bare_kind = bare_one same_kind _ (λ t. option_same _)

bare_column : IsBare unlined_column column column
bare_column = bare_then unlined_name unlined_column named named _ _ bare_named (λ name. bare_then same_kind unlined_column kind_rule kind_rule _ _ bare_kind
    (λ k. bare_done unlined_column (record { name = name; kind = k }) (record { name = unlined_name name; kind = k }) refl))

bare_columns : IsBare (map unlined_column) columns columns
bare_columns = bare_parens (map unlined_column) (list_of column) (bare_list unlined_column column column bare_column)

bare_names : IsBare (map unlined_name) names names
bare_names = bare_parens (map unlined_name) (list_of named) (bare_list unlined_name named named bare_named)

-- ---- expressions

literal_bare : (o : Option Value) (line : ℕ) → literal_of o 0 ≡ option_map unlined_expr (literal_of o line)
literal_bare None line = refl
literal_bare (Some v) line = ap Some (sym (unlined_value v line))

alone_bare : (is_now : Bool) (o : Option Value) (line : ℕ)
    → cond is_now (Some (expr.Now 0)) (literal_of o 0) ≡ option_map unlined_expr (cond is_now (Some (expr.Now line)) (literal_of o line))
alone_bare true o line = ap Some (sym (unlined_now line))
alone_bare false o line = literal_bare o line

bare_single : IsBare unlined_expr single single
bare_single = bare_one unlined_expr _ (λ t. alone_bare (is_word word.Now t.lexeme) (value_of t.lexeme) t.line)

bare_field : IsBare unlined_expr name_or_field name_or_field
bare_field = bare_then unlined_name unlined_expr named named _ _ bare_named (λ name.
    bare_behind unlined_expr (is_sign sign.Dot) (field_of name) (field_of (unlined_name name)) (done (expr.Var name)) (done (expr.Var (unlined_name name)))
    (bare_then unlined_name unlined_expr named named _ _ bare_named (λ column. bare_done unlined_expr (expr.Field name column) (expr.Field (unlined_name name) (unlined_name column)) (sym (unlined_field name column))))
    (bare_done unlined_expr (expr.Var name) (expr.Var (unlined_name name)) (sym (unlined_var name))))

abbrev no_line : ℕ → ℕ
no_line line = 0

line_bare : (b : Bool) (line : ℕ) → line_where b 0 ≡ option_map no_line (line_where b line)
line_bare true line = refl
line_bare false line = refl

bare_line : (test : Lexeme → Bool) → IsBare no_line (line_at test) (line_at test)
bare_line test = bare_one no_line _ (λ t. line_bare (test t.lexeme) t.line)

record BareInner (i : Inner) : Type 0 where
  minus : IsBare unlined_expr i.minus i.minus
  nots : IsBare unlined_expr i.nots i.nots
  parens : IsBare unlined_expr i.parens i.parens

bare_atom : (i : Inner) → BareInner i → IsBare unlined_expr (atom_of i) (atom_of i)
bare_atom i s = bare_before unlined_expr (is_sign sign.Open) i.parens i.parens (before is_name name_or_field single) (before is_name name_or_field single) s.parens
    (bare_before unlined_expr is_name name_or_field name_or_field single single bare_field bare_single)

bare_unary : (i : Inner) → BareInner i → IsBare unlined_expr (unary_of i) (unary_of i)
bare_unary i s = bare_before unlined_expr (is_sign sign.Minus) i.minus i.minus (atom_of i) (atom_of i) s.minus (bare_atom i s)

bare_sum : (i : Inner) → BareInner i → IsBare unlined_expr (sum_of i) (sum_of i)
bare_sum i s = bare_chain sum_op (term_of i) (bare_chain term_op (unary_of i) (bare_unary i s))

bare_comparison : (i : Inner) → BareInner i → IsBare unlined_expr (comparison_of i) (comparison_of i)
bare_comparison i s = bare_then unlined_expr unlined_expr (sum_of i) (sum_of i) _ _ (bare_sum i s) (λ left.
    bare_op unlined_expr comparison_op (λ o. sum_of i >>= λ right. done (expr.Two o left right)) (λ o. sum_of i >>= λ right. done (expr.Two o (unlined_expr left) right)) left (unlined_expr left) refl
    (λ o. bare_then unlined_expr unlined_expr (sum_of i) (sum_of i) _ _ (bare_sum i s)
    (λ right. bare_done unlined_expr (expr.Two o left right) (expr.Two o (unlined_expr left) (unlined_expr right)) (sym (unlined_two o left right)))))

bare_negation : (i : Inner) → BareInner i → IsBare unlined_expr (negation_of i) (negation_of i)
bare_negation i s = bare_before unlined_expr (is_word word.Not) i.nots i.nots (comparison_of i) (comparison_of i) s.nots (bare_comparison i s)

bare_whole : (i : Inner) → BareInner i → IsBare unlined_expr (expression_of i) (expression_of i)
bare_whole i s = bare_chain or_op (conjunction_of i) (bare_chain and_op (negation_of i) (bare_negation i s))

bare_deeper : (i : Inner) → BareInner i → BareInner (deeper i)
bare_deeper i s = record {
  minus = bare_then no_line unlined_expr (line_at (is_sign sign.Minus)) (line_at (is_sign sign.Minus)) _ _ (bare_line (is_sign sign.Minus))
      (λ line. bare_then unlined_expr unlined_expr (unary_of i) (unary_of i) _ _ (bare_unary i s) (λ e. bare_done unlined_expr (expr.Neg e line) (expr.Neg (unlined_expr e) 0) (sym (unlined_neg e line))));
  nots = bare_then no_line unlined_expr (line_at (is_word word.Not)) (line_at (is_word word.Not)) _ _ (bare_line (is_word word.Not))
      (λ line. bare_then unlined_expr unlined_expr (negation_of i) (negation_of i) _ _ (bare_negation i s) (λ e. bare_done unlined_expr (expr.Not e line) (expr.Not (unlined_expr e) 0) (sym (unlined_not e line))));
  parens = bare_then no_line unlined_expr (line_at (is_sign sign.Open)) (line_at (is_sign sign.Open)) _ _ (bare_line (is_sign sign.Open))
      (λ line. bare_then unlined_expr unlined_expr (expression_of i) (expression_of i) _ _ (bare_whole i s)
      (λ e. bare_sign unlined_expr sign.Close _ _ (bare_done unlined_expr (expr.Paren e line) (expr.Paren (unlined_expr e) 0) (sym (unlined_paren e line)))));
}

bare_inner : (more : ℕ) → BareInner (inner more)
bare_inner zero = record { minus = bare_refuse unlined_expr; nots = bare_refuse unlined_expr; parens = bare_refuse unlined_expr }
bare_inner (suc more) = bare_deeper (inner more) (bare_inner more)

bare_expression : IsBare unlined_expr expression expression
bare_expression = bare_whole (inner 16) (bare_inner 16)

-- ---- statements

bare_keys : IsBare (map unlined_expr) keys keys
bare_keys = bare_parens (map unlined_expr) (list_of expression) (bare_list unlined_expr expression expression bare_expression)

abbrev unlined_body : List Stmt → List Stmt
unlined_body body = map unlined_stmt body

abbrev unlined_keyed : Named × List Expr → Named × List Expr
unlined_keyed row = (unlined_name row.0, map unlined_expr row.1)

bare_keyed : (w : Word) → IsBare unlined_keyed (keyed w) (keyed w)
bare_keyed w = bare_then unlined_name unlined_keyed (named_behind w) (named_behind w) _ _ (bare_named_behind w) (λ table. bare_word unlined_keyed word.Key _ _
    (bare_then (map unlined_expr) unlined_keyed keys keys _ _ bare_keys (λ key. bare_done unlined_keyed (table, key) (unlined_name table, map unlined_expr key) refl)))

bare_new_value : IsBare unlined_expr new_value new_value
bare_new_value = bare_sign unlined_expr sign.Equal expression expression bare_expression

bare_ended : (statement plain : Stmt) → plain ≡ unlined_stmt statement → IsBare unlined_stmt (ended sign.Semicolon statement) (ended sign.Semicolon plain)
bare_ended statement plain same = bare_sign unlined_stmt sign.Semicolon _ _ (bare_done unlined_stmt statement plain same)

bare_let : IsBare unlined_stmt let_statement let_statement
bare_let = bare_then unlined_name unlined_stmt (named_behind word.Let) (named_behind word.Let) _ _ (bare_named_behind word.Let) (λ name.
    bare_then unlined_expr unlined_stmt new_value new_value _ _ bare_new_value (λ e. bare_ended (stmt.Let name e) _ (sym (unlined_let name e))))

bare_assignment : IsBare unlined_stmt assignment assignment
bare_assignment = bare_then unlined_name unlined_stmt named named _ _ bare_named (λ name.
    bare_then unlined_expr unlined_stmt new_value new_value _ _ bare_new_value (λ e. bare_ended (stmt.Assign name e) _ (sym (unlined_assign name e))))

bare_else : (b : Reader (List Stmt)) → IsBare unlined_body b b → IsBare unlined_other (behind (is_word word.Else) (some_block b) (done None)) (behind (is_word word.Else) (some_block b) (done None))
bare_else b h = bare_behind unlined_other (is_word word.Else) (some_block b) (some_block b) (done None) (done None)
    (bare_then unlined_body unlined_other b b _ _ h (λ body. bare_done unlined_other (Some body) (Some (unlined_body body)) refl)) (bare_done unlined_other None None refl)

abbrev unlined_branches : List Stmt × Option (List Stmt) → List Stmt × Option (List Stmt)
unlined_branches both = (unlined_body both.0, unlined_other both.1)

bare_branches : (b : Reader (List Stmt)) → IsBare unlined_body b b → IsBare unlined_branches (branches b) (branches b)
bare_branches b h = bare_then unlined_body unlined_branches b b _ _ h (λ body.
    bare_then unlined_other unlined_branches (behind (is_word word.Else) (some_block b) (done None)) (behind (is_word word.Else) (some_block b) (done None)) _ _ (bare_else b h)
    (λ other. bare_done unlined_branches (body, other) (unlined_body body, unlined_other other) refl))

bare_if : (b : Reader (List Stmt)) → IsBare unlined_body b b → IsBare unlined_stmt (if_statement b) (if_statement b)
bare_if b h = bare_word unlined_stmt word.If _ _ (bare_then unlined_expr unlined_stmt expression expression _ _ bare_expression (λ test.
    bare_then unlined_branches unlined_stmt (branches b) (branches b) _ _ (bare_branches b h) (λ both. bare_done unlined_stmt (stmt.If test both.0 both.1) _ (sym (unlined_if test both.0 both.1)))))

abbrev unlined_blocks : List Stmt × List Stmt → List Stmt × List Stmt
unlined_blocks both = (unlined_body both.0, unlined_body both.1)

bare_two : (b : Reader (List Stmt)) → IsBare unlined_body b b → IsBare unlined_blocks (two_blocks b) (two_blocks b)
bare_two b h = bare_then unlined_body unlined_blocks b b _ _ h (λ found. bare_word unlined_blocks word.Else _ _ (bare_then unlined_body unlined_blocks b b _ _ h
    (λ absent. bare_done unlined_blocks (found, absent) (unlined_body found, unlined_body absent) refl)))

bare_get : (b : Reader (List Stmt)) → IsBare unlined_body b b → IsBare unlined_stmt (get_statement b) (get_statement b)
bare_get b h = bare_then unlined_name unlined_stmt (named_behind word.Get) (named_behind word.Get) _ _ (bare_named_behind word.Get) (λ name.
    bare_then unlined_keyed unlined_stmt (keyed word.From) (keyed word.From) _ _ (bare_keyed word.From) (λ row.
    bare_then unlined_blocks unlined_stmt (two_blocks b) (two_blocks b) _ _ (bare_two b h)
    (λ both. bare_done unlined_stmt (stmt.Get name row.0 row.1 both.0 both.1) _ (sym (unlined_get name row.0 row.1 both.0 both.1)))))

bare_span_end : (w : Word) → IsBare (option_map unlined_expr) (span_end w) (span_end w)
bare_span_end w = bare_behind (option_map unlined_expr) (is_word w) some_expression some_expression (done None) (done None)
    (bare_then unlined_expr (option_map unlined_expr) expression expression _ _ bare_expression (λ e. bare_done (option_map unlined_expr) (Some e) (Some (unlined_expr e)) refl))
    (bare_done (option_map unlined_expr) None None refl)

abbrev unlined_span : Named × Option Expr × Option Expr → Named × Option Expr × Option Expr
unlined_span span = (unlined_name span.0, option_map unlined_expr span.1, option_map unlined_expr span.2)

bare_span : IsBare unlined_span span span
bare_span = bare_word unlined_span word.Span _ _ (bare_then unlined_name unlined_span (named_behind word.On) (named_behind word.On) _ _ (bare_named_behind word.On) (λ column.
    bare_then (option_map unlined_expr) unlined_span (span_end word.From) (span_end word.From) _ _ (bare_span_end word.From) (λ low.
    bare_then (option_map unlined_expr) unlined_span (span_end word.To) (span_end word.To) _ _ (bare_span_end word.To)
    (λ high. bare_done unlined_span (column, low, high) (unlined_name column, option_map unlined_expr low, option_map unlined_expr high) refl))))

bare_for : (b : Reader (List Stmt)) → IsBare unlined_body b b → IsBare unlined_stmt (for_statement b) (for_statement b)
bare_for b h = bare_then unlined_name unlined_stmt (named_behind word.For) (named_behind word.For) _ _ (bare_named_behind word.For) (λ name.
    bare_then unlined_name unlined_stmt (named_behind word.In) (named_behind word.In) _ _ (bare_named_behind word.In) (λ table.
    bare_then unlined_span unlined_stmt span span _ _ bare_span (λ span. bare_then unlined_body unlined_stmt b b _ _ h
    (λ body. bare_done unlined_stmt (stmt.For name table span.0 span.1 span.2 body) _ (sym (unlined_for name table span.0 span.1 span.2 body))))))

bare_insert : IsBare unlined_stmt insert_statement insert_statement
bare_insert = bare_then unlined_name unlined_stmt (named_behind word.Insert) (named_behind word.Insert) _ _ (bare_named_behind word.Insert) (λ table.
    bare_then (map unlined_expr) unlined_stmt keys keys _ _ bare_keys (λ values. bare_ended (stmt.Insert table values) _ (sym (unlined_insert table values))))

bare_change : IsBare unlined_change change change
bare_change = bare_then unlined_name unlined_change named named _ _ bare_named (λ column. bare_then unlined_expr unlined_change new_value new_value _ _ bare_new_value
    (λ e. bare_done unlined_change (record { column = column; value = e }) (record { column = unlined_name column; value = unlined_expr e }) refl))

bare_changes : IsBare (map unlined_change) changes changes
bare_changes = bare_word (map unlined_change) word.Set (list_of change) (list_of change) (bare_list unlined_change change change bare_change)

bare_update : IsBare unlined_stmt update_statement update_statement
bare_update = bare_then unlined_keyed unlined_stmt (keyed word.Update) (keyed word.Update) _ _ (bare_keyed word.Update) (λ row.
    bare_then (map unlined_change) unlined_stmt changes changes _ _ bare_changes
    (λ changes. bare_ended (stmt.Update row.0 row.1 changes) _ (sym (unlined_update row.0 row.1 changes))))

bare_delete : IsBare unlined_stmt delete_statement delete_statement
bare_delete = bare_then unlined_keyed unlined_stmt (keyed word.Delete) (keyed word.Delete) _ _ (bare_keyed word.Delete)
    (λ row. bare_ended (stmt.Delete row.0 row.1) _ (sym (unlined_delete row.0 row.1)))

abbrev same_text : List ℕ → List ℕ
same_text text = text

bare_fail : IsBare unlined_stmt fail_statement fail_statement
bare_fail = bare_word unlined_stmt word.Fail _ _ (bare_then same_text unlined_stmt text_rule text_rule _ _ (bare_one same_text _ (λ t. option_same _))
    (λ text. bare_ended (stmt.Fail text) _ (sym (unlined_fail text))))

bare_by : (b : Reader (List Stmt)) → IsBare unlined_body b b → (h : Head) → IsBare unlined_stmt (statement_by b h) (statement_by b h)
bare_by b l head.Let = bare_let
bare_by b l head.If = bare_if b l
bare_by b l head.Get = bare_get b l
bare_by b l head.For = bare_for b l
bare_by b l head.Insert = bare_insert
bare_by b l head.Update = bare_update
bare_by b l head.Delete = bare_delete
bare_by b l head.Fail = bare_fail
bare_by b l head.Name = bare_assignment

head_bare : (ts : List Token) → head_of (bared ts) ≡ head_of ts
head_bare [] = refl
head_bare (t ∷ ts) = refl

bare_block : (more : ℕ) → IsBare unlined_body (block_at more) (block_at more)
bare_block zero = bare_refuse unlined_body
bare_block (suc more) = bare_sign unlined_body sign.OpenBrace _ _ (bare_then unlined_body unlined_body (many_of no_close (statement_of (block_at more))) (many_of no_close (statement_of (block_at more))) _ _
    (bare_many unlined_stmt no_close (statement_of (block_at more)) (statement_of (block_at more))
    (bare_first unlined_stmt head_of (statement_by (block_at more)) (statement_by (block_at more)) head_bare (bare_by (block_at more) (bare_block more))))
    (λ body. bare_sign unlined_body sign.CloseBrace _ _ (bare_done unlined_body body (unlined_body body) refl)))

-- ---- declarations

abbrev unlined_table_end : List Named × List Named → List Named × List Named
unlined_table_end end = (map unlined_name end.0, map unlined_name end.1)

bare_table_end : IsBare unlined_table_end table_end table_end
bare_table_end = bare_word unlined_table_end word.Key _ _ (bare_then (map unlined_name) unlined_table_end names names _ _ bare_names
    (λ key. bare_then (map unlined_name) unlined_table_end (behind (is_word word.Index) names (done [])) (behind (is_word word.Index) names (done [])) _ _
    (bare_behind (map unlined_name) (is_word word.Index) names names (done []) (done []) bare_names (bare_done (map unlined_name) [] [] refl))
    (λ index. bare_sign unlined_table_end sign.Semicolon _ _ (bare_done unlined_table_end (key, index) (map unlined_name key, map unlined_name index) refl))))

bare_table : IsBare unlined_table table table
bare_table = bare_then unlined_name unlined_table (named_behind word.Table) (named_behind word.Table) _ _ (bare_named_behind word.Table) (λ name.
    bare_then (map unlined_column) unlined_table columns columns _ _ bare_columns (λ columns. bare_then unlined_table_end unlined_table table_end table_end _ _ bare_table_end
    (λ end. bare_done unlined_table (record { name = name; columns = columns; key = end.0; index = end.1 }) _ refl)))

bare_parameters : IsBare (map unlined_column) parameters parameters
bare_parameters = bare_sign (map unlined_column) sign.Open _ _ (bare_behind (map unlined_column) (is_sign sign.Close) (done []) (done []) more_parameters more_parameters (bare_done (map unlined_column) [] [] refl)
    (bare_then (map unlined_column) (map unlined_column) (list_of column) (list_of column) _ _ (bare_list unlined_column column column bare_column)
    (λ params. bare_sign (map unlined_column) sign.Close _ _ (bare_done (map unlined_column) params (map unlined_column params) refl))))

bare_procedure : IsBare unlined_procedure procedure procedure
bare_procedure = bare_then unlined_name unlined_procedure (named_behind word.Proc) (named_behind word.Proc) _ _ (bare_named_behind word.Proc) (λ name.
    bare_then (map unlined_column) unlined_procedure parameters parameters _ _ bare_parameters (λ params. bare_then unlined_body unlined_procedure block block _ _ (bare_block 16)
    (λ body. bare_done unlined_procedure (record { name = name; params = params; body = body }) _ refl)))

abbrev same_flag : Bool → Bool
same_flag flag = flag

bare_exact : IsBare same_flag declares_exact declares_exact
bare_exact = bare_behind same_flag (is_word word.Isolation) _ _ (done false) (done false)
    (bare_word same_flag word.Exact _ _ (bare_sign same_flag sign.Semicolon _ _ (bare_done same_flag true true refl))) (bare_done same_flag false false refl)

pub bare_application : IsBare unlined application application
bare_application = bare_then same_flag unlined declares_exact declares_exact _ _ bare_exact
    (λ exact. bare_then (map unlined_table) unlined (many_of (is_word word.Table) table) (many_of (is_word word.Table) table) _ _ (bare_many unlined_table (is_word word.Table) table table bare_table)
    (λ tables. bare_then (map unlined_procedure) unlined (many_of (is_word word.Proc) procedure) (many_of (is_word word.Proc) procedure) _ _
    (bare_many unlined_procedure (is_word word.Proc) procedure procedure bare_procedure)
    (λ procs. bare_then same_unit unlined (expect is_end) (expect is_end) _ _ (bare_expect is_end) (λ _. bare_done unlined (record { exact = exact; tables = tables; procs = procs }) _ refl))))
