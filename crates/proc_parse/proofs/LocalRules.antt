-- Each rule of the grammar decides by the tokens that it has seen.
use Rattle.std.specs.Prelude.{ℕ, zero, suc, List, [], None, false, true, refl}
use Rattle.proc_parse.specs.declared.token.Word.{Word}
use Rattle.proc_parse.specs.declared.token.Word.TheVariants as word
use Rattle.proc_parse.specs.declared.token.Sign.{Sign}
use Rattle.proc_parse.specs.declared.token.Sign.TheVariants as sign
use Rattle.proc_parse.specs.Words.{is_word, is_sign}
use Rattle.proc_parse.specs.Reading.{Reader, ◌>>◌, done, behind, expect}
use Rattle.proc_parse.specs.Lists.{list_of, many_of}
use Rattle.proc_parse.specs.Shorter.{shortens_column, shortens_named, shortens_expression, shortens_change, shortens_statement, keeps_block, shortens_table, shortens_procedure}
use Rattle.proc_parse.proofs.Local.{IsLocal, local_done, local_refuse, local_then, local_behind, local_before, local_first, local_expect, local_one, local_op, local_chain, local_list, local_many}
use Rattle.proc_syntax.specs.declared.tree.Expr.{Expr}
use Rattle.proc_syntax.specs.declared.tree.Expr.TheVariants as expr
use Rattle.proc_syntax.specs.declared.tree.Stmt.{Stmt}
use Rattle.proc_syntax.specs.declared.tree.Stmt.TheVariants as stmt
use Rattle.proc_parse.specs.declared.statements.Head.{Head}
use Rattle.proc_parse.specs.declared.statements.Head.TheVariants as head
use Rattle.proc_parse.specs.Phrases.{the_word, the_sign, ended, in_parens, named, named_behind, kind_rule, column, columns, names}
use Rattle.proc_parse.specs.Expressions.{comparison_op, or_op, and_op, sum_op, term_op, single, is_name, name_or_field, line_at, Inner, inner, deeper, atom_of, unary_of, term_of, sum_of, comparison_of, negation_of, conjunction_of, expression_of, expression}
use Rattle.proc_parse.specs.Statements.{keys, keyed, new_value, let_statement, assignment, some_block, branches, if_statement, two_blocks, get_statement, span_end, span, for_statement, insert_statement, change, changes, update_statement, delete_statement, fail_statement, text_rule, head_of, statement_by, statement_of, no_close, block_at, block}
use Rattle.proc_parse.specs.Grammar.{table_end, table, parameters, procedure, is_end, declares_exact, application}

local_word : {A : Type 0} → (w : Word) (next : Reader A) → IsLocal next → IsLocal (the_word w >> next)
local_word w next l = local_then (the_word w) (λ _. next) (local_expect (is_word w)) (λ _. l)

local_sign : {A : Type 0} → (s : Sign) (next : Reader A) → IsLocal next → IsLocal (the_sign s >> next)
local_sign s next l = local_then (the_sign s) (λ _. next) (local_expect (is_sign s)) (λ _. l)

pub local_parens : {A : Type 0} → (phrase : Reader A) → IsLocal phrase → IsLocal (in_parens phrase)
local_parens phrase l = local_sign sign.Open _ (local_then phrase _ l (λ x. local_sign sign.Close _ (local_done x)))

pub local_named : IsLocal named
local_named = local_one _

local_named_behind : (w : Word) → IsLocal (named_behind w)
local_named_behind w = local_word w named local_named

pub local_column : IsLocal column
local_column = local_then named _ local_named (λ name. local_then kind_rule _ ((local_one _)) (λ kind. local_done _))

pub local_columns : IsLocal columns
local_columns = local_parens (list_of column) (local_list column shortens_column local_column)

pub local_names : IsLocal names
local_names = local_parens (list_of named) (local_list named shortens_named local_named)

-- ---- expressions

pub record LocalInner (i : Inner) : Type 0 where
  pub minus : IsLocal i.minus
  pub nots : IsLocal i.nots
  pub parens : IsLocal i.parens

local_field : IsLocal name_or_field
local_field = local_then named _ local_named
    (λ name. local_behind (is_sign sign.Dot) _ _ (local_then named _ (local_named) (λ column. local_done (expr.Field name column))) (local_done (expr.Var name)))

local_atom : (i : Inner) → LocalInner i → IsLocal (atom_of i)
local_atom i s = local_before (is_sign sign.Open) i.parens _ s.parens (local_before is_name name_or_field single local_field (local_one _))

local_unary : (i : Inner) → LocalInner i → IsLocal (unary_of i)
local_unary i s = local_before (is_sign sign.Minus) i.minus (atom_of i) s.minus (local_atom i s)

local_sum : (i : Inner) → LocalInner i → IsLocal (sum_of i)
local_sum i s = local_chain sum_op (term_of i) (local_chain term_op (unary_of i) (local_unary i s))

local_comparison : (i : Inner) → LocalInner i → IsLocal (comparison_of i)
local_comparison i s = local_then (sum_of i) _ (local_sum i s)
    (λ left. local_op comparison_op _ left (λ o. local_then (sum_of i) _ ((local_sum i s)) (λ right. local_done (expr.Two o left right))))

local_negation : (i : Inner) → LocalInner i → IsLocal (negation_of i)
local_negation i s = local_before (is_word word.Not) i.nots (comparison_of i) s.nots (local_comparison i s)

local_whole : (i : Inner) → LocalInner i → IsLocal (expression_of i)
local_whole i s = local_chain or_op (conjunction_of i) (local_chain and_op (negation_of i) (local_negation i s))

local_deeper : (i : Inner) → LocalInner i → LocalInner (deeper i)
local_deeper i s = record {
  minus = local_then (line_at (is_sign sign.Minus)) _ (local_one _) (λ line. local_then (unary_of i) _ ((local_unary i s)) (λ e. local_done (expr.Neg e line)));
  nots = local_then (line_at (is_word word.Not)) _ (local_one _) (λ line. local_then (negation_of i) _ ((local_negation i s)) (λ e. local_done (expr.Not e line)));
  parens = local_then (line_at (is_sign sign.Open)) _ (local_one _)
      (λ line. local_then (expression_of i) _ ((local_whole i s)) (λ e. local_sign sign.Close _ (local_done (expr.Paren e line))));
}

local_inner : (more : ℕ) → LocalInner (inner more)
local_inner zero = record { minus = local_refuse Expr; nots = local_refuse Expr; parens = local_refuse Expr }
local_inner (suc more) = local_deeper (inner more) (local_inner more)

pub local_expression : IsLocal expression
local_expression = local_whole (inner 16) (local_inner 16)

-- ---- statements

local_keys : IsLocal keys
local_keys = (local_parens (list_of expression) (local_list expression shortens_expression local_expression))

local_keyed : (w : Word) → IsLocal (keyed w)
local_keyed w = local_then (named_behind w) _ (local_named_behind w) (λ table. local_word word.Key _ (local_then keys _ local_keys (λ key. local_done (table, key))))

local_new_value : IsLocal new_value
local_new_value = local_sign sign.Equal expression local_expression

local_ended : (statement : Stmt) → IsLocal (ended sign.Semicolon statement)
local_ended statement = local_sign sign.Semicolon _ (local_done statement)

local_let : IsLocal let_statement
local_let = local_then (named_behind word.Let) _ (local_named_behind word.Let) (λ name. local_then new_value _ local_new_value (λ e. local_ended (stmt.Let name e)))

local_assignment : IsLocal assignment
local_assignment = local_then named _ local_named (λ name. local_then new_value _ local_new_value (λ e. local_ended (stmt.Assign name e)))

local_branches : (b : Reader (List Stmt)) → IsLocal b → IsLocal (branches b)
local_branches b kb = local_then b _ kb (λ body. local_then (behind (is_word word.Else) (some_block b) (done None)) _
    (local_behind (is_word word.Else) (some_block b) _ (local_then b _ kb (λ body. local_done _)) (local_done None)) (λ other. local_done (body, other)))

local_if : (b : Reader (List Stmt)) → IsLocal b → IsLocal (if_statement b)
local_if b kb = local_word word.If _ (local_then expression _ local_expression (λ test. local_then (branches b) _ (local_branches b kb) (λ both. local_done _)))

local_two : (b : Reader (List Stmt)) → IsLocal b → IsLocal (two_blocks b)
local_two b kb = local_then b _ kb (λ found. local_word word.Else _ (local_then b _ kb (λ absent. local_done (found, absent))))

local_get : (b : Reader (List Stmt)) → IsLocal b → IsLocal (get_statement b)
local_get b kb = local_then (named_behind word.Get) _ (local_named_behind word.Get) (λ name. local_then (keyed word.From) _ (local_keyed word.From)
    (λ row. local_then (two_blocks b) _ (local_two b kb) (λ both. local_done _)))

local_span_end : (w : Word) → IsLocal (span_end w)
local_span_end w = local_behind (is_word w) _ _ (local_then expression _ local_expression (λ e. local_done _)) (local_done None)

local_span : IsLocal span
local_span = local_word word.Span _ (local_then (named_behind word.On) _ (local_named_behind word.On) (λ column. local_then (span_end word.From) _ (local_span_end word.From) (λ low.
    local_then (span_end word.To) _ (local_span_end word.To) (λ high. local_done (column, low, high)))))

local_for : (b : Reader (List Stmt)) → IsLocal b → IsLocal (for_statement b)
local_for b kb = local_then (named_behind word.For) _ (local_named_behind word.For) (λ name. local_then (named_behind word.In) _ (local_named_behind word.In)
    (λ table. local_then span _ local_span (λ span. local_then b _ kb (λ body. local_done _))))

local_insert : IsLocal insert_statement
local_insert = local_then (named_behind word.Insert) _ (local_named_behind word.Insert) (λ table. local_then keys _ local_keys (λ values. local_ended (stmt.Insert table values)))

pub local_change : IsLocal change
local_change = local_then named _ local_named (λ column. local_then new_value _ local_new_value (λ e. local_done _))

local_changes : IsLocal changes
local_changes = local_word word.Set (list_of change) (local_list change shortens_change local_change)

local_update : IsLocal update_statement
local_update = local_then (keyed word.Update) _ (local_keyed word.Update) (λ row. local_then changes _ local_changes (λ changes. local_ended (stmt.Update row.0 row.1 changes)))

local_delete : IsLocal delete_statement
local_delete = local_then (keyed word.Delete) _ (local_keyed word.Delete) (λ row. local_ended (stmt.Delete row.0 row.1))

local_fail : IsLocal fail_statement
local_fail = local_word word.Fail _ (local_then text_rule _ ((local_one _)) (λ text. local_ended (stmt.Fail text)))

local_by : (b : Reader (List Stmt)) → IsLocal b → (h : Head) → IsLocal (statement_by b h)
local_by b kb head.Let = local_let
local_by b kb head.If = local_if b kb
local_by b kb head.Get = local_get b kb
local_by b kb head.For = local_for b kb
local_by b kb head.Insert = local_insert
local_by b kb head.Update = local_update
local_by b kb head.Delete = local_delete
local_by b kb head.Fail = local_fail
local_by b kb head.Name = local_assignment

pub local_statement : (b : Reader (List Stmt)) → IsLocal b → IsLocal (statement_of b)
local_statement b kb = local_first head_of (statement_by b) (λ t xs ys. refl) (local_by b kb)

pub local_block : (more : ℕ) → IsLocal (block_at more)
local_block zero = (local_refuse (List Stmt))
local_block (suc more) = local_sign sign.OpenBrace _ (local_then (many_of no_close (statement_of (block_at more))) _
    (local_many no_close (statement_of (block_at more)) (shortens_statement (block_at more) (keeps_block more)) (local_statement (block_at more) (local_block more))) (λ body. local_sign sign.CloseBrace _ (local_done body)))

-- ---- declarations

local_table_end : IsLocal table_end
local_table_end = local_word word.Key _ (local_then names _ local_names
    (λ key. local_then (behind (is_word word.Index) names (done [])) _ (local_behind (is_word word.Index) names _ local_names (local_done []))
    (λ index. local_sign sign.Semicolon _ (local_done (key, index)))))

pub local_table : IsLocal table
local_table = local_then (named_behind word.Table) _ (local_named_behind word.Table)
    (λ name. local_then columns _ local_columns (λ columns. local_then table_end _ local_table_end (λ end. local_done _)))

pub local_parameters : IsLocal parameters
local_parameters = local_sign sign.Open _ (local_behind (is_sign sign.Close) _ _ (local_done [])
    (local_then (list_of column) _ ((local_list column shortens_column local_column)) (λ params. local_sign sign.Close _ (local_done params))))

pub local_procedure : IsLocal procedure
local_procedure = local_then (named_behind word.Proc) _ (local_named_behind word.Proc)
    (λ name. local_then parameters _ local_parameters (λ params. local_then block _ (local_block 16) (λ body. local_done _)))

local_end : {A : Type 0} → (next : Reader A) → IsLocal next → IsLocal (expect is_end >> next)
local_end next l = local_then (expect is_end) (λ _. next) (local_expect is_end) (λ _. l)

local_exact : IsLocal declares_exact
local_exact = local_behind (is_word word.Isolation) _ _ (local_word word.Exact _ (local_sign sign.Semicolon _ (local_done true))) (local_done false)

pub local_application : IsLocal application
local_application = local_then declares_exact _ local_exact
    (λ exact. local_then (many_of (is_word word.Table) table) _ (local_many (is_word word.Table) table shortens_table local_table)
    (λ tables. local_then (many_of (is_word word.Proc) procedure) _ (local_many (is_word word.Proc) procedure shortens_procedure local_procedure)
    (λ procs. local_end _ (local_done _))))
