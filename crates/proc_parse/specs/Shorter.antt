-- Each phrase takes a token at least, and no reader gives tokens back.
use Rattle.std.specs.Prelude.{◌<◌, ◌≤◌, ℕ, zero, suc, List, [], ◌∷◌, ◌++◌, length, Bool, true, false, cond, Option, Some, None, Ok, Err}
use Rattle.std.proofs.Common.{arith}
use Rattle.proc_parse.specs.declared.token.Token.{Token}
use Rattle.proc_parse.specs.declared.token.Lexeme.{Lexeme}
use Rattle.proc_parse.specs.declared.token.Word.{Word}
use Rattle.proc_parse.specs.declared.token.Sign.{Sign}
use Rattle.proc_parse.specs.declared.token.Sign.TheVariants as sign
use Rattle.proc_parse.specs.Words.{is_word, is_sign}
use Rattle.proc_parse.specs.Reading.{Read, Reader, on_read, ◌>>=◌, ◌>>◌, done, refuse, past, if_past, begins, behind, before, by_first, expect, one, if_found, IsShorter, Shortens}
use Rattle.proc_parse.specs.Lists.{list_from, list_of, many_from, many_of}
use Rattle.proc_parse.specs.declared.token.Word.TheVariants as word
use Rattle.proc_syntax.specs.declared.tree.Op.{Op}
use Rattle.proc_syntax.specs.declared.tree.Expr.{Expr}
use Rattle.proc_syntax.specs.declared.tree.Expr.TheVariants as expr
use Rattle.proc_syntax.specs.declared.tree.Stmt.{Stmt}
use Rattle.proc_syntax.specs.declared.tree.Stmt.TheVariants as stmt
use Rattle.proc_parse.specs.declared.statements.Head.{Head}
use Rattle.proc_parse.specs.declared.statements.Head.TheVariants as head
use Rattle.proc_parse.specs.Phrases.{the_word, the_sign, ended, in_parens, named, named_behind, kind_rule, column, columns, names}
use Rattle.proc_parse.specs.Expressions.{op_before, if_op, op_at, with_op, chain_from, chain_of, comparison_op, or_op, and_op, sum_op, term_op, single, is_name, name_or_field, line_at, Inner, inner, deeper, atom_of, unary_of, term_of, sum_of, comparison_of, negation_of, conjunction_of, expression_of, expression}
use Rattle.proc_parse.specs.Statements.{keys, keyed, new_value, let_statement, assignment, some_block, branches, if_statement, two_blocks, get_statement, span_end, span, for_statement, insert_statement, change, changes, update_statement, delete_statement, fail_statement, text_rule, head_of, statement_by, statement_of, no_close, block_at, block}
use Rattle.proc_parse.specs.Grammar.{table_end, table, parameters, procedure}

abbrev pub IsWithin : {A : Type 0} → List Token → Read A → Type 0
IsWithin ts (Ok x) = length x.1 ≤ length ts
IsWithin ts (Err rest) = length rest ≤ length ts

pub record NeverGrows {A : Type 0} (rule : Reader A) : Type 0 where
  pub within : (ts : List Token) → IsWithin ts (rule ts)

within_of : {A : Type 0} → (ts : List Token) (r : Read A) → IsShorter ts r → IsWithin ts r
within_of ts (Ok x) h = omega (arith, h)
within_of ts (Err rest) h = h

within_more : {A : Type 0} → (few ts : List Token) (r : Read A) → length few ≤ length ts → IsWithin few r → IsWithin ts r
within_more few ts (Ok x) h k = omega (arith, h, k)
within_more few ts (Err rest) h k = omega (arith, h, k)

shorter_more : {A : Type 0} → (few ts : List Token) (r : Read A) → length few < length ts → IsWithin few r → IsShorter ts r
shorter_more few ts (Ok x) h k = omega (arith, h, k)
shorter_more few ts (Err rest) h k = omega (arith, h, k)

shorter_less : {A : Type 0} → (few ts : List Token) (r : Read A) → length few ≤ length ts → IsShorter few r → IsShorter ts r
shorter_less few ts (Ok x) h k = omega (arith, h, k)
shorter_less few ts (Err rest) h k = omega (arith, h, k)

pub keeps_of : {A : Type 0} → (p : Reader A) → Shortens p → NeverGrows p
keeps_of p sp = record { within = λ ts. within_of ts (p ts) (sp.shorter ts) }

within_read : {A B : Type 0} → (ts : List Token) (r : Read A) (f : A → Reader B) → IsWithin ts r → ((x : A) → NeverGrows (f x)) → IsWithin ts (on_read r f)
within_read ts (Ok x) f h k = within_more x.1 ts (f x.0 x.1) h ((k x.0).within x.1)
within_read ts (Err rest) f h k = h

shorter_read : {A B : Type 0} → (ts : List Token) (r : Read A) (f : A → Reader B) → IsShorter ts r → ((x : A) → NeverGrows (f x)) → IsShorter ts (on_read r f)
shorter_read ts (Ok x) f h k = shorter_more x.1 ts (f x.0 x.1) h ((k x.0).within x.1)
shorter_read ts (Err rest) f h k = h

pub keeps_then : {A B : Type 0} → (p : Reader A) (f : A → Reader B) → NeverGrows p → ((x : A) → NeverGrows (f x)) → NeverGrows (p >>= f)
keeps_then p f kp kf = record { within = λ ts. within_read ts (p ts) f (kp.within ts) kf }

pub shortens_then : {A B : Type 0} → (p : Reader A) (f : A → Reader B) → Shortens p → ((x : A) → NeverGrows (f x)) → Shortens (p >>= f)
shortens_then p f sp kf = record { shorter = λ ts. shorter_read ts (p ts) f (sp.shorter ts) kf }

pub keeps_done : {A : Type 0} → (x : A) → NeverGrows (done x)
keeps_done x = record { within = λ ts. omega arith }

pub shortens_refuse : (A : Type 0) → Shortens (refuse {A = A})
shortens_refuse A = record { shorter = λ ts. omega arith }

within_past : {A : Type 0} → (test : Lexeme → Bool) (ts : List Token) (go : Reader A) (stay : Read A) → NeverGrows go → IsWithin ts stay → IsWithin ts (if_past (past test ts) go stay)
within_past test [] go stay kg ks = ks
within_past {A = A} test (t ∷ ts) go stay kg ks =
    elim (test t.lexeme) as (λ b. IsWithin (t ∷ ts) (if_past {A = A} (cond b (Some ts) None) go stay))
    [ true ↦ within_more ts (t ∷ ts) (go ts) (omega arith) (kg.within ts) | false ↦ ks ]

shorter_past : {A : Type 0} → (test : Lexeme → Bool) (ts : List Token) (go : Reader A) (stay : Read A) → NeverGrows go → IsShorter ts stay → IsShorter ts (if_past (past test ts) go stay)
shorter_past test [] go stay kg ss = ss
shorter_past {A = A} test (t ∷ ts) go stay kg ss =
    elim (test t.lexeme) as (λ b. IsShorter (t ∷ ts) (if_past {A = A} (cond b (Some ts) None) go stay))
    [ true ↦ shorter_more ts (t ∷ ts) (go ts) (omega arith) (kg.within ts) | false ↦ ss ]

within_before : {A : Type 0} → (b : Bool) (ts : List Token) (go stay : Read A) → IsWithin ts go → IsWithin ts stay → IsWithin ts (cond b go stay)
within_before true ts go stay kg ks = kg
within_before false ts go stay kg ks = ks

pub keeps_behind : {A : Type 0} → (test : Lexeme → Bool) (go stay : Reader A) → NeverGrows go → NeverGrows stay → NeverGrows (behind test go stay)
keeps_behind test go stay kg ks = record { within = λ ts. within_past test ts go (stay ts) kg (ks.within ts) }

pub shortens_behind : {A : Type 0} → (test : Lexeme → Bool) (go stay : Reader A) → NeverGrows go → Shortens stay → Shortens (behind test go stay)
shortens_behind test go stay kg ss = record { shorter = λ ts. shorter_past test ts go (stay ts) kg (ss.shorter ts) }

pub keeps_before : {A : Type 0} → (test : Lexeme → Bool) (go stay : Reader A) → NeverGrows go → NeverGrows stay → NeverGrows (before test go stay)
keeps_before test go stay kg ks = record { within = λ ts. within_before (begins test ts) ts (go ts) (stay ts) (kg.within ts) (ks.within ts) }

shorter_before : {A : Type 0} → (b : Bool) (ts : List Token) (go stay : Read A) → IsShorter ts go → IsShorter ts stay → IsShorter ts (cond b go stay)
shorter_before true ts go stay sg ss = sg
shorter_before false ts go stay sg ss = ss

pub shortens_before : {A : Type 0} → (test : Lexeme → Bool) (go stay : Reader A) → Shortens go → Shortens stay → Shortens (before test go stay)
shortens_before test go stay sg ss = record { shorter = λ ts. shorter_before (begins test ts) ts (go ts) (stay ts) (sg.shorter ts) (ss.shorter ts) }

pub shortens_first : {A H : Type 0} → (head : List Token → H) (go : H → Reader A) → ((h : H) → Shortens (go h)) → Shortens (by_first head go)
shortens_first head go sg = record { shorter = λ ts. (sg (head ts)).shorter ts }

pub shortens_expect : (test : Lexeme → Bool) → Shortens (expect test)
shortens_expect test = shortens_behind test (done tt) refuse (keeps_done tt) (shortens_refuse (Unit {0}))

shorter_found : {A : Type 0} → (o : Option A) (t : Token) (ts : List Token) → IsShorter (t ∷ ts) (if_found o t ts)
shorter_found (Some x) t ts = omega arith
shorter_found None t ts = omega arith

shorter_one : {A : Type 0} → (meaning : Token → Option A) (ts : List Token) → IsShorter ts (one meaning ts)
shorter_one meaning [] = omega arith
shorter_one meaning (t ∷ ts) = shorter_found (meaning t) t ts

pub shortens_one : {A : Type 0} → (meaning : Token → Option A) → Shortens (one meaning)
shortens_one meaning = record { shorter = shorter_one meaning }

shortens_list_from : {A : Type 0} → (item : Reader A) → Shortens item → (steps : ℕ) (items : List A) → Shortens (list_from item steps items)
shortens_list_from {A = A} item short zero items = shortens_refuse (List A)
shortens_list_from item short (suc steps) items =
    shortens_then item _ short (λ x. keeps_behind (is_sign sign.Comma) _ _ (keeps_of _ (shortens_list_from item short steps (items ++ x ∷ []))) (keeps_done (items ++ x ∷ [])))

pub shortens_list : {A : Type 0} → (item : Reader A) → Shortens item → Shortens (list_of item)
shortens_list item short = record { shorter = λ ts. (shortens_list_from item short (length ts) []).shorter ts }

pub keeps_many_from : {A : Type 0} → (test : Lexeme → Bool) (item : Reader A) → Shortens item → (steps : ℕ) (items : List A) → NeverGrows (many_from test item steps items)
keeps_many_from test item short zero items = keeps_done items
keeps_many_from test item short (suc steps) items =
    keeps_before test _ _ (keeps_then item _ (keeps_of item short) (λ x. keeps_many_from test item short steps (items ++ x ∷ []))) (keeps_done items)

pub keeps_many : {A : Type 0} → (test : Lexeme → Bool) (item : Reader A) → Shortens item → NeverGrows (many_of test item)
keeps_many test item short = record { within = λ ts. (keeps_many_from test item short (length ts) []).within ts }

-- ---- the rules

pub shortens_word : {A : Type 0} → (w : Word) (next : Reader A) → NeverGrows next → Shortens (the_word w >> next)
shortens_word w next k = shortens_then (the_word w) (λ _. next) (shortens_expect (is_word w)) (λ _. k)

pub shortens_sign : {A : Type 0} → (s : Sign) (next : Reader A) → NeverGrows next → Shortens (the_sign s >> next)
shortens_sign s next k = shortens_then (the_sign s) (λ _. next) (shortens_expect (is_sign s)) (λ _. k)

pub keeps_word : {A : Type 0} → (w : Word) (next : Reader A) → NeverGrows next → NeverGrows (the_word w >> next)
keeps_word w next k = keeps_of _ (shortens_word w next k)

pub keeps_sign : {A : Type 0} → (s : Sign) (next : Reader A) → NeverGrows next → NeverGrows (the_sign s >> next)
keeps_sign s next k = keeps_of _ (shortens_sign s next k)

pub shortens_parens : {A : Type 0} → (phrase : Reader A) → Shortens phrase → Shortens (in_parens phrase)
shortens_parens phrase short = shortens_sign sign.Open _ (keeps_then phrase _ (keeps_of phrase short) (λ x. keeps_sign sign.Close _ (keeps_done x)))

pub shortens_named : Shortens named
shortens_named = shortens_one _

pub shortens_named_behind : (w : Word) → Shortens (named_behind w)
shortens_named_behind w = shortens_word w named (keeps_of named shortens_named)

pub shortens_column : Shortens column
shortens_column = shortens_then named _ shortens_named (λ name. keeps_then kind_rule _ (keeps_of kind_rule (shortens_one _)) (λ kind. keeps_done _))

pub shortens_columns : Shortens columns
shortens_columns = shortens_parens (list_of column) (shortens_list column shortens_column)

pub shortens_names : Shortens names
shortens_names = shortens_parens (list_of named) (shortens_list named shortens_named)

-- ---- expressions

within_op : {A : Type 0} → (ops : Lexeme → Option Op) (ts : List Token) (go : Op → Reader A) (stay : A) → ((o : Op) → NeverGrows (go o)) → IsWithin ts (if_op (op_at ops ts) go stay ts)
within_op ops [] go stay kg = omega arith
within_op {A = A} ops (t ∷ ts) go stay kg =
    elim (ops t.lexeme) as (λ o. IsWithin (t ∷ ts) (if_op {A = A} (op_before o ts) go stay (t ∷ ts)))
    [ None ↦ omega arith | Some o ↦ within_more ts (t ∷ ts) (go o ts) (omega arith) ((kg o).within ts) ]

within_no_op : {A : Type 0} → (o : Option (Op × List Token)) (ts : List Token) (stay : A) → IsWithin ts (if_op {A = A} o (λ _ _. Err ts) stay ts)
within_no_op None ts stay = omega arith
within_no_op (Some found) ts stay = omega arith

keeps_op : {A : Type 0} → (ops : Lexeme → Option Op) (go : Op → Reader A) (stay : A) → ((o : Op) → NeverGrows (go o)) → NeverGrows (with_op ops go stay)
keeps_op ops go stay kg = record { within = λ ts. within_op ops ts go stay kg }

keeps_chain : (ops : Lexeme → Option Op) (operand : Reader Expr) → Shortens operand → (more : ℕ) (left : Expr) → NeverGrows (chain_from ops operand more left)
keeps_chain ops operand short zero left = record { within = λ ts. within_no_op (op_at ops ts) ts left }
keeps_chain ops operand short (suc more) left =
    keeps_op ops _ left (λ o. keeps_then operand _ (keeps_of operand short) (λ right. keeps_chain ops operand short more (expr.Two o left right)))

pub shortens_chain : (ops : Lexeme → Option Op) (operand : Reader Expr) → Shortens operand → Shortens (chain_of ops operand)
shortens_chain ops operand short = shortens_then operand _ short (λ left. keeps_chain ops operand short 32 left)

pub record ShortInner (i : Inner) : Type 0 where
  pub minus : Shortens i.minus
  pub nots : Shortens i.nots
  pub parens : Shortens i.parens

pub shortens_field : Shortens name_or_field
shortens_field = shortens_then named _ shortens_named
    (λ name. keeps_behind (is_sign sign.Dot) _ _ (keeps_then named _ (keeps_of _ shortens_named) (λ column. keeps_done (expr.Field name column))) (keeps_done (expr.Var name)))

pub shortens_atom : (i : Inner) → ShortInner i → Shortens (atom_of i)
shortens_atom i s = shortens_before (is_sign sign.Open) i.parens _ s.parens (shortens_before is_name name_or_field single shortens_field (shortens_one _))

shortens_unary : (i : Inner) → ShortInner i → Shortens (unary_of i)
shortens_unary i s = shortens_before (is_sign sign.Minus) i.minus (atom_of i) s.minus (shortens_atom i s)

shortens_sum : (i : Inner) → ShortInner i → Shortens (sum_of i)
shortens_sum i s = shortens_chain sum_op (term_of i) (shortens_chain term_op (unary_of i) (shortens_unary i s))

pub shortens_comparison : (i : Inner) → ShortInner i → Shortens (comparison_of i)
shortens_comparison i s = shortens_then (sum_of i) _ (shortens_sum i s)
    (λ left. keeps_op comparison_op _ left (λ o. keeps_then (sum_of i) _ (keeps_of _ (shortens_sum i s)) (λ right. keeps_done (expr.Two o left right))))

shortens_negation : (i : Inner) → ShortInner i → Shortens (negation_of i)
shortens_negation i s = shortens_before (is_word word.Not) i.nots (comparison_of i) s.nots (shortens_comparison i s)

shortens_whole : (i : Inner) → ShortInner i → Shortens (expression_of i)
shortens_whole i s = shortens_chain or_op (conjunction_of i) (shortens_chain and_op (negation_of i) (shortens_negation i s))

short_deeper : (i : Inner) → ShortInner i → ShortInner (deeper i)
short_deeper i s = record {
  minus = shortens_then (line_at (is_sign sign.Minus)) _ (shortens_one _) (λ line. keeps_then (unary_of i) _ (keeps_of _ (shortens_unary i s)) (λ e. keeps_done (expr.Neg e line)));
  nots = shortens_then (line_at (is_word word.Not)) _ (shortens_one _) (λ line. keeps_then (negation_of i) _ (keeps_of _ (shortens_negation i s)) (λ e. keeps_done (expr.Not e line)));
  parens = shortens_then (line_at (is_sign sign.Open)) _ (shortens_one _)
      (λ line. keeps_then (expression_of i) _ (keeps_of _ (shortens_whole i s)) (λ e. keeps_sign sign.Close _ (keeps_done (expr.Paren e line))));
}

pub short_inner : (more : ℕ) → ShortInner (inner more)
short_inner zero = record { minus = shortens_refuse Expr; nots = shortens_refuse Expr; parens = shortens_refuse Expr }
short_inner (suc more) = short_deeper (inner more) (short_inner more)

pub shortens_expression : Shortens expression
shortens_expression = shortens_whole (inner 16) (short_inner 16)

-- ---- statements

keeps_expression : NeverGrows expression
keeps_expression = keeps_of expression shortens_expression

keeps_keys : NeverGrows keys
keeps_keys = keeps_of keys (shortens_parens (list_of expression) (shortens_list expression shortens_expression))

shortens_keyed : (w : Word) → Shortens (keyed w)
shortens_keyed w = shortens_then (named_behind w) _ (shortens_named_behind w) (λ table. keeps_word word.Key _ (keeps_then keys _ keeps_keys (λ key. keeps_done (table, key))))

keeps_new_value : NeverGrows new_value
keeps_new_value = keeps_sign sign.Equal expression keeps_expression

keeps_ended : (statement : Stmt) → NeverGrows (ended sign.Semicolon statement)
keeps_ended statement = keeps_sign sign.Semicolon _ (keeps_done statement)

shortens_let : Shortens let_statement
shortens_let = shortens_then (named_behind word.Let) _ (shortens_named_behind word.Let) (λ name. keeps_then new_value _ keeps_new_value (λ e. keeps_ended (stmt.Let name e)))

shortens_assignment : Shortens assignment
shortens_assignment = shortens_then named _ shortens_named (λ name. keeps_then new_value _ keeps_new_value (λ e. keeps_ended (stmt.Assign name e)))

keeps_branches : (b : Reader (List Stmt)) → NeverGrows b → NeverGrows (branches b)
keeps_branches b kb = keeps_then b _ kb (λ body. keeps_then (behind (is_word word.Else) (some_block b) (done None)) _
    (keeps_behind (is_word word.Else) (some_block b) _ (keeps_then b _ kb (λ body. keeps_done _)) (keeps_done None)) (λ other. keeps_done (body, other)))

shortens_if : (b : Reader (List Stmt)) → NeverGrows b → Shortens (if_statement b)
shortens_if b kb = shortens_word word.If _ (keeps_then expression _ keeps_expression (λ test. keeps_then (branches b) _ (keeps_branches b kb) (λ both. keeps_done _)))

keeps_two : (b : Reader (List Stmt)) → NeverGrows b → NeverGrows (two_blocks b)
keeps_two b kb = keeps_then b _ kb (λ found. keeps_word word.Else _ (keeps_then b _ kb (λ absent. keeps_done (found, absent))))

shortens_get : (b : Reader (List Stmt)) → NeverGrows b → Shortens (get_statement b)
shortens_get b kb = shortens_then (named_behind word.Get) _ (shortens_named_behind word.Get) (λ name. keeps_then (keyed word.From) _ (keeps_of _ (shortens_keyed word.From))
    (λ row. keeps_then (two_blocks b) _ (keeps_two b kb) (λ both. keeps_done _)))

keeps_span_end : (w : Word) → NeverGrows (span_end w)
keeps_span_end w = keeps_behind (is_word w) _ _ (keeps_then expression _ keeps_expression (λ e. keeps_done _)) (keeps_done None)

keeps_span : NeverGrows span
keeps_span = keeps_word word.Span _ (keeps_then (named_behind word.On) _ (keeps_of _ (shortens_named_behind word.On)) (λ column. keeps_then (span_end word.From) _ (keeps_span_end word.From) (λ low.
    keeps_then (span_end word.To) _ (keeps_span_end word.To) (λ high. keeps_done (column, low, high)))))

shortens_for : (b : Reader (List Stmt)) → NeverGrows b → Shortens (for_statement b)
shortens_for b kb = shortens_then (named_behind word.For) _ (shortens_named_behind word.For) (λ name. keeps_then (named_behind word.In) _ (keeps_of _ (shortens_named_behind word.In))
    (λ table. keeps_then span _ keeps_span (λ span. keeps_then b _ kb (λ body. keeps_done _))))

shortens_insert : Shortens insert_statement
shortens_insert = shortens_then (named_behind word.Insert) _ (shortens_named_behind word.Insert) (λ table. keeps_then keys _ keeps_keys (λ values. keeps_ended (stmt.Insert table values)))

pub shortens_change : Shortens change
shortens_change = shortens_then named _ shortens_named (λ column. keeps_then new_value _ keeps_new_value (λ e. keeps_done _))

keeps_changes : NeverGrows changes
keeps_changes = keeps_word word.Set (list_of change) (keeps_of _ (shortens_list change shortens_change))

shortens_update : Shortens update_statement
shortens_update = shortens_then (keyed word.Update) _ (shortens_keyed word.Update) (λ row. keeps_then changes _ keeps_changes (λ changes. keeps_ended (stmt.Update row.0 row.1 changes)))

shortens_delete : Shortens delete_statement
shortens_delete = shortens_then (keyed word.Delete) _ (shortens_keyed word.Delete) (λ row. keeps_ended (stmt.Delete row.0 row.1))

shortens_fail : Shortens fail_statement
shortens_fail = shortens_word word.Fail _ (keeps_then text_rule _ (keeps_of text_rule (shortens_one _)) (λ text. keeps_ended (stmt.Fail text)))

shortens_by : (b : Reader (List Stmt)) → NeverGrows b → (h : Head) → Shortens (statement_by b h)
shortens_by b kb head.Let = shortens_let
shortens_by b kb head.If = shortens_if b kb
shortens_by b kb head.Get = shortens_get b kb
shortens_by b kb head.For = shortens_for b kb
shortens_by b kb head.Insert = shortens_insert
shortens_by b kb head.Update = shortens_update
shortens_by b kb head.Delete = shortens_delete
shortens_by b kb head.Fail = shortens_fail
shortens_by b kb head.Name = shortens_assignment

pub shortens_statement : (b : Reader (List Stmt)) → NeverGrows b → Shortens (statement_of b)
shortens_statement b kb = shortens_first head_of (statement_by b) (shortens_by b kb)

pub keeps_block : (more : ℕ) → NeverGrows (block_at more)
keeps_block zero = keeps_of _ (shortens_refuse (List Stmt))
keeps_block (suc more) = keeps_sign sign.OpenBrace _ (keeps_then (many_of no_close (statement_of (block_at more))) _
    (keeps_many no_close (statement_of (block_at more)) (shortens_statement (block_at more) (keeps_block more))) (λ body. keeps_sign sign.CloseBrace _ (keeps_done body)))

-- ---- declarations

keeps_table_end : NeverGrows table_end
keeps_table_end = keeps_word word.Key _ (keeps_then names _ (keeps_of _ shortens_names)
    (λ key. keeps_then (behind (is_word word.Index) names (done [])) _ (keeps_behind _ names _ (keeps_of _ shortens_names) (keeps_done []))
    (λ index. keeps_sign sign.Semicolon _ (keeps_done (key, index)))))

pub shortens_table : Shortens table
shortens_table = shortens_then (named_behind word.Table) _ (shortens_named_behind word.Table)
    (λ name. keeps_then columns _ (keeps_of _ shortens_columns) (λ columns. keeps_then table_end _ keeps_table_end (λ end. keeps_done _)))

pub keeps_parameters : NeverGrows parameters
keeps_parameters = keeps_sign sign.Open _ (keeps_behind (is_sign sign.Close) _ _ (keeps_done [])
    (keeps_then (list_of column) _ (keeps_of _ (shortens_list column shortens_column)) (λ params. keeps_sign sign.Close _ (keeps_done params))))

pub shortens_procedure : Shortens procedure
shortens_procedure = shortens_then (named_behind word.Proc) _ (shortens_named_behind word.Proc)
    (λ name. keeps_then parameters _ keeps_parameters (λ params. keeps_then block _ (keeps_block 16) (λ body. keeps_done _)))
