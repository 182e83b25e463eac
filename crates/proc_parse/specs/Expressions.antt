-- The grammar of expressions.
use Rattle.std.specs.Prelude.{ℕ, cond, zero, suc, List, [], ◌∷◌, Bool, true, false, Option, Some, None, Result, Ok, Err}
use Rattle.rel_base.specs.declared.value.Value.{Value}
use Rattle.rel_base.specs.declared.value.Value.TheVariants as value
use Rattle.proc_syntax.specs.declared.tree.Op.{Op}
use Rattle.proc_syntax.specs.declared.tree.Op.TheVariants as op
use Rattle.proc_syntax.specs.declared.tree.Expr.{Expr}
use Rattle.proc_syntax.specs.declared.tree.Expr.TheVariants as expr
use Rattle.proc_syntax.specs.declared.tree.Named.{Named}
use Rattle.proc_parse.specs.declared.token.Token.{Token}
use Rattle.proc_parse.specs.declared.token.Lexeme.{Lexeme}
use Rattle.proc_parse.specs.declared.token.Lexeme.TheVariants as lexeme
use Rattle.proc_parse.specs.declared.token.Word.TheVariants as word
use Rattle.proc_parse.specs.declared.token.Sign.TheVariants as sign
use Rattle.proc_parse.specs.declared.expressions.Level.{Level}
use Rattle.proc_parse.specs.declared.expressions.Level.TheVariants as level
use Rattle.proc_parse.specs.Words.{is_word, is_sign}
use Rattle.proc_parse.specs.Reading.{Reader, ◌>>=◌, ◌>>◌, done, refuse, behind, before, one}
use Rattle.proc_parse.specs.Phrases.{the_sign, named}

-- ---- operators

abbrev pub comparison_op : Lexeme → Option Op
comparison_op (lexeme.Sign sign.Equal) = Some op.Eq
comparison_op (lexeme.Sign sign.NotEqual) = Some op.Ne
comparison_op (lexeme.Sign sign.Less) = Some op.Lt
comparison_op (lexeme.Sign sign.LessEqual) = Some op.Le
comparison_op (lexeme.Sign sign.Greater) = Some op.Gt
comparison_op (lexeme.Sign sign.GreaterEqual) = Some op.Ge
comparison_op _ = None

abbrev pub or_op : Lexeme → Option Op
or_op (lexeme.Word word.Or) = Some op.Or
or_op _ = None

abbrev pub and_op : Lexeme → Option Op
and_op (lexeme.Word word.And) = Some op.And
and_op _ = None

abbrev pub sum_op : Lexeme → Option Op
sum_op (lexeme.Sign sign.Plus) = Some op.Add
sum_op (lexeme.Sign sign.Minus) = Some op.Sub
sum_op (lexeme.Sign sign.Join) = Some op.Join
sum_op _ = None

abbrev pub term_op : Lexeme → Option Op
term_op (lexeme.Sign sign.Star) = Some op.Mul
term_op (lexeme.Sign sign.Slash) = Some op.Div
term_op (lexeme.Sign sign.Percent) = Some op.Rem
term_op _ = None

-- the operators of a chain
abbrev pub op_of : Level → Lexeme → Option Op
op_of level.Or = or_op
op_of level.And = and_op
op_of level.Sum = sum_op
op_of level.Term = term_op

abbrev pub op_before : Option Op → List Token → Option (Op × List Token)
op_before None ts = None
op_before (Some o) ts = Some (o, ts)

-- the operator that the first token is, and the tokens after it
abbrev pub op_at : (Lexeme → Option Op) → List Token → Option (Op × List Token)
op_at ops [] = None
op_at ops (t ∷ ts) = op_before (ops t.lexeme) ts

abbrev pub if_op : {A : Type 0} → Option (Op × List Token) → (Op → Reader A) → A → List Token → Result (A × List Token) (List Token)
if_op None go stay ts = Ok (stay, ts)
if_op (Some found) go stay ts = go found.0 found.1

-- past an operator the one, and else nothing more
abbrev pub with_op : {A : Type 0} → (Lexeme → Option Op) → (Op → Reader A) → A → Reader A
with_op ops go stay ts = if_op (op_at ops ts) go stay ts

-- no operator may come
abbrev pub without_op : {A : Type 0} → (Lexeme → Option Op) → A → Reader A
without_op ops stay ts = if_op (op_at ops ts) (λ _ _. Err ts) stay ts

-- so many more operators, each with an operand; a chain groups to the left
abbrev pub chain_from : (Lexeme → Option Op) → Reader Expr → ℕ → Expr → Reader Expr
chain_from ops operand zero left = without_op ops left
chain_from ops operand (suc more) left = with_op ops (λ o. operand >>= λ right. chain_from ops operand more (expr.Two o left right)) left

-- after an operator
abbrev pub chain_after : (Lexeme → Option Op) → Reader Expr → ℕ → Expr → Op → Reader Expr
chain_after ops operand more left o = operand >>= λ right. chain_from ops operand more (expr.Two o left right)

-- operand (operator operand)*, with at most 32 operators
abbrev pub chain_of : (Lexeme → Option Op) → Reader Expr → Reader Expr
chain_of ops operand = operand >>= λ left. chain_from ops operand 32 left

-- ---- operands

abbrev pub value_of : Lexeme → Option Value
value_of (lexeme.Int n) = Some (value.Int n)
value_of (lexeme.Text bytes) = Some (value.Text bytes)
value_of (lexeme.Bytes bytes) = Some (value.Bytes bytes)
value_of (lexeme.Word word.True) = Some (value.Bool true)
value_of (lexeme.Word word.False) = Some (value.Bool false)
value_of _ = None

abbrev pub literal_of : Option Value → ℕ → Option Expr
literal_of (Some v) line = Some (expr.Value v line)
literal_of None line = None

-- the expression that a token is by itself: `now`, or a literal
abbrev pub single_of : Lexeme → ℕ → Option Expr
single_of lexeme line = cond (is_word word.Now lexeme) (Some (expr.Now line)) (literal_of (value_of lexeme) line)

-- int | text | "true" | "false" | "now" | bytes
abbrev pub single : Reader Expr
single = one (λ token. single_of token.lexeme token.line)

abbrev pub is_name : Lexeme → Bool
is_name (lexeme.Name bytes) = true
is_name _ = false

abbrev pub field_of : Named → Reader Expr
field_of row = named >>= λ column. done (expr.Field row column)

-- name | name "." name
abbrev pub name_or_field : Reader Expr
name_or_field = named >>= λ name. behind (is_sign sign.Dot) (field_of name) (done (expr.Var name))

abbrev pub line_where : Bool → ℕ → Option ℕ
line_where true line = Some line
line_where false line = None

-- the line of a token that passes the test
abbrev pub line_at : (Lexeme → Bool) → Reader ℕ
line_at test = one (λ token. line_where (test token.lexeme) token.line)

-- what may stand where `-`, `not` or `(` comes
pub record Inner : Type 0 where
  pub minus : Reader Expr
  pub nots : Reader Expr
  pub parens : Reader Expr

-- atom = int | text | "true" | "false" | "now" | bytes | name | name "." name | "(" expr ")"
abbrev pub atom_of : Inner → Reader Expr
atom_of inner = before (is_sign sign.Open) inner.parens (before is_name name_or_field single)

-- unary = "-" unary | atom
abbrev pub unary_of : Inner → Reader Expr
unary_of inner = before (is_sign sign.Minus) inner.minus (atom_of inner)

-- term = unary (("*" | "/" | "%") unary)*
abbrev pub term_of : Inner → Reader Expr
term_of inner = chain_of term_op (unary_of inner)

-- sum = term (("+" | "-" | "++") term)*
abbrev pub sum_of : Inner → Reader Expr
sum_of inner = chain_of sum_op (term_of inner)

-- comp = sum [("=" | "!=" | "<" | "<=" | ">" | ">=") sum]
abbrev pub comparison_of : Inner → Reader Expr
comparison_of inner = sum_of inner >>= λ left. with_op comparison_op (λ o. sum_of inner >>= λ right. done (expr.Two o left right)) left

-- neg = "not" neg | comp
abbrev pub negation_of : Inner → Reader Expr
negation_of inner = before (is_word word.Not) inner.nots (comparison_of inner)

-- conj = neg ("and" neg)*
abbrev pub conjunction_of : Inner → Reader Expr
conjunction_of inner = chain_of and_op (negation_of inner)

-- expr = conj ("or" conj)*
abbrev pub expression_of : Inner → Reader Expr
expression_of inner = chain_of or_op (conjunction_of inner)

abbrev pub minus_of : Inner → Reader Expr
minus_of inner = line_at (is_sign sign.Minus) >>= λ line. unary_of inner >>= λ e. done (expr.Neg e line)

abbrev pub not_of : Inner → Reader Expr
not_of inner = line_at (is_word word.Not) >>= λ line. negation_of inner >>= λ e. done (expr.Not e line)

abbrev pub parens_of : Inner → Reader Expr
parens_of inner = line_at (is_sign sign.Open) >>= λ line. expression_of inner >>= λ e. the_sign sign.Close >> done (expr.Paren e line)

-- what stands inside one more of them
abbrev pub deeper : Inner → Inner
deeper inner = record { minus = minus_of inner; nots = not_of inner; parens = parens_of inner }

-- where so many more of `-`, `not` and `(` may be open
abbrev pub inner : ℕ → Inner
inner zero = record { minus = refuse; nots = refuse; parens = refuse }
inner (suc more) = deeper (inner more)

-- an operand of a chain
abbrev pub operand_of : Level → Inner → Reader Expr
operand_of level.Or inner = conjunction_of inner
operand_of level.And inner = negation_of inner
operand_of level.Sum inner = term_of inner
operand_of level.Term inner = unary_of inner

-- at most 16 of `not`, `-` and `(` are open at one place
abbrev pub expression : Reader Expr
expression = expression_of (inner 16)
