use Rattle.std.proofs.lemmas.Grind.{common_steps}
use Rattle.std.proofs.Common.{◌<◌, subst, sym, arith}
use Rattle.proc_syntax.specs.declared.tree.Expr.{Expr}
use Rattle.proc_parse.specs.Reading.{Read, on_read, Gives}
use Rattle.proc_parse.specs.Expressions.{inner, op_of, operand_of, chain_from}
use Rattle.proc_parse.proofs.Depth.{chain_more}
use Rattle.proc_parse.proofs.expressions.+operands.Goals as goal

pub more-returns-else-chain-eq0 : goal.more-returns-else-chain-eq0
more-returns-else-chain-eq0 t c =
    let some : 0 < c.args.chain.most = omega (arith, c.if-chain-eq0.false) in
    subst (λ (meant : Read Expr). Gives c.more_after.result meant)
    (sym (chain_more (op_of c.args.chain.level) (operand_of c.args.chain.level (inner c.args.chain.depth)) c.args.chain.most c.args.left c.in-Some.op c.args.tokens.now c.in-Some.rest.now some c.in-Some.ensures))
    c.more_after.ensures

pub chain-returns : goal.chain-returns
chain-returns t c =
    subst (λ (meant : Read Expr). Gives c.more.result (on_read meant (chain_from (op_of c.args.level) (operand_of c.args.level (inner c.args.depth)) 32)))
    (sym c.in_ok-left.ensures)
    c.more.ensures

pub denial-returns-in_err-inner : goal.denial-returns-in_err-inner
denial-returns-in_err-inner t c = grind (arith, common_steps)

pub group-returns-in_err-inner : goal.group-returns-in_err-inner
group-returns-in_err-inner t c = grind (arith, common_steps)
