use Rattle.std.proofs.Common.{◌≡◌, ◌+◌, ◌*◌, length}
use Rattle.proc_parse.specs.Lists.{many_of, many_from}
use Rattle.proc_parse.specs.Statements.{statement_of, no_close, block_at}
use Rattle.proc_parse.proofs.statements.+blocks.Given as goal

abbrev pub invariant-statements-loop-alloc : goal.invariant-statements-loop-alloc
invariant-statements-loop-alloc l = many_from no_close (statement_of (block_at l.depth)) (length l.rest) l.body l.rest ≡ many_of no_close (statement_of (block_at l.depth)) l.fn.tokens

abbrev pub decreases-statements-loop-alloc : goal.decreases-statements-loop-alloc
decreases-statements-loop-alloc l = length l.rest

abbrev pub decreases-block : goal.decreases-block
decreases-block l = 10 * l.depth

abbrev pub decreases-statements : goal.decreases-statements
decreases-statements l = 10 * l.depth + 9

abbrev pub decreases-statement : goal.decreases-statement
decreases-statement l = 10 * l.depth + 5

abbrev pub decreases-if_statement : goal.decreases-if_statement
decreases-if_statement l = 10 * l.depth + 4

abbrev pub decreases-branches : goal.decreases-branches
decreases-branches l = 10 * l.depth + 3

abbrev pub decreases-other_block : goal.decreases-other_block
decreases-other_block l = 10 * l.depth + 2

abbrev pub decreases-get_statement : goal.decreases-get_statement
decreases-get_statement l = 10 * l.depth + 4

abbrev pub decreases-two_blocks : goal.decreases-two_blocks
decreases-two_blocks l = 10 * l.depth + 3

abbrev pub decreases-for_statement : goal.decreases-for_statement
decreases-for_statement l = 10 * l.depth + 3
