use Rattle.std.proofs.Common.{arith, sym, ◌∙◌}
use Rattle.proc_parse.proofs.Pieces.{found_most, found_less, newline_some, goes_on}
use Rattle.proc_parse.proofs.lexer.tokens.Goals as goal

pub overflow_sub-end : goal.overflow_sub-end
overflow_sub-end c =
    omega (arith, found_most c.loop-tokens.rest.now c.in_ok-piece.after.now c.in_ok-piece.piece c.in_ok-piece.ensures, c.loop-tokens.invariant.within)

pub overflow_sub-rest : goal.overflow_sub-rest
overflow_sub-rest c = found_most _ _ _ c.in_ok-piece.ensures

pub moved-next-requires-clause-newline : goal.moved-next-requires-clause-newline
moved-next-requires-clause-newline c = newline_some _ _ _ c.in_ok-piece.ensures

pub loop-tokens-smaller : goal.loop-tokens-smaller
loop-tokens-smaller c = found_less _ _ _ c.in_ok-piece.ensures (sym c.in_ok-put.ensures.last ∙ c.if-branch.false)

pub loop-tokens-preserved : goal.loop-tokens-preserved
loop-tokens-preserved c =
    goes_on _ _ _ _ _ _ _ _ _ _ c.in_ok-piece.ensures c.moved-next.ensures c.if-branch.false c.in_ok-put.ensures.tokens c.loop-tokens.invariant
