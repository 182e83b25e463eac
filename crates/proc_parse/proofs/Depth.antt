-- What may stand where one more of `-`, `not` and `(` is open.
use Rattle.std.proofs.Common.{◌≡◌, ℕ, zero, suc, ◌<◌, ◌-◌, Option, Some, Err, List, sym, ap, ◌∙◌, arith}
use Rattle.proc_parse.specs.declared.token.Token.{Token}
use Rattle.proc_parse.specs.Statements.{block_at, block_of, statement_of}
use Rattle.proc_syntax.specs.declared.tree.Op.{Op}
use Rattle.proc_syntax.specs.declared.tree.Expr.{Expr}
use Rattle.proc_parse.specs.declared.token.Lexeme.{Lexeme}
use Rattle.proc_parse.specs.Reading.{Reader}
use Rattle.proc_parse.specs.Expressions.{if_op, op_at, chain_from, chain_after, Inner, inner, deeper, minus_of, not_of, parens_of}

less : (depth : ℕ) → 0 < depth → inner depth ≡ deeper (inner (depth - 1))
less zero h = absurd (omega (arith, h))
less (suc depth) h = ap (λ d. deeper (inner d)) (let e : depth ≡ suc depth - 1 = omega arith in e)

pub minus_less : (depth : ℕ) (ts : List Token) → 0 < depth → (inner depth).minus ts ≡ minus_of (inner (depth - 1)) ts
minus_less depth ts h = ap (λ (i : Inner). i.minus ts) (less depth h)

pub nots_less : (depth : ℕ) (ts : List Token) → 0 < depth → (inner depth).nots ts ≡ not_of (inner (depth - 1)) ts
nots_less depth ts h = ap (λ (i : Inner). i.nots ts) (less depth h)

pub parens_less : (depth : ℕ) (ts : List Token) → 0 < depth → (inner depth).parens ts ≡ parens_of (inner (depth - 1)) ts
parens_less depth ts h = ap (λ (i : Inner). i.parens ts) (less depth h)

pub minus_none : (depth : ℕ) (ts : List Token) → depth ≡ 0 → (inner depth).minus ts ≡ Err ts
minus_none depth ts h = ap (λ d. (inner d).minus ts) h

pub nots_none : (depth : ℕ) (ts : List Token) → depth ≡ 0 → (inner depth).nots ts ≡ Err ts
nots_none depth ts h = ap (λ d. (inner d).nots ts) h

pub parens_none : (depth : ℕ) (ts : List Token) → depth ≡ 0 → (inner depth).parens ts ≡ Err ts
parens_none depth ts h = ap (λ d. (inner d).parens ts) h

pub block_less : (depth : ℕ) (ts : List Token) → 0 < depth → block_at depth ts ≡ block_of (statement_of (block_at (depth - 1))) ts
block_less zero ts h = absurd (omega (arith, h))
block_less (suc depth) ts h = ap (λ d. block_of (statement_of (block_at d)) ts) (let e : depth ≡ suc depth - 1 = omega arith in e)

pub block_none : (depth : ℕ) (ts : List Token) → depth ≡ 0 → block_at depth ts ≡ Err ts
block_none depth ts h = ap (λ d. block_at d ts) h

pub chain_more : (ops : Lexeme → Option Op) (operand : Reader Expr) (most : ℕ) (left : Expr) (o : Op) (ts rest : List Token) → 0 < most → Some (o, rest) ≡ op_at ops ts
    → chain_from ops operand most left ts ≡ chain_after ops operand (most - 1) left o rest
chain_more ops operand zero left o ts rest h e = absurd (omega (arith, h))
chain_more ops operand (suc most) left o ts rest h e =
    ap (λ (found : Option (Op × List Token)). if_op {A = Expr} found (λ o. chain_after ops operand most left o) left ts) (sym e)
    ∙ ap (λ n. chain_after ops operand n left o rest) (let k : most ≡ suc most - 1 = omega arith in k)
