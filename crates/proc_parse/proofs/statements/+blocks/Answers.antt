use Rattle.std.proofs.Common.{sym, ◌∙◌}
use Rattle.proc_parse.specs.Statements.{statement_of, no_close, block_at}
use Rattle.proc_parse.specs.Shorter.{shortens_statement, keeps_block}
use Rattle.proc_parse.proofs.Lists.{many_next, ok_shorter}
use Rattle.proc_parse.proofs.statements.+blocks.Goals as goal

pub statements-loop-alloc-preserved : goal.statements-loop-alloc-preserved
statements-loop-alloc-preserved t c =
    many_next no_close (statement_of (block_at c.args.depth)) (shortens_statement (block_at c.args.depth) (keeps_block c.args.depth)) c.loop-alloc.body c.push.new.self c.loop-alloc.rest.now c.in_ok-statement.after.now c.in_ok-statement.statement
    (sym c.goes_on.ensures ∙ c.loop-alloc-test.true) c.in_ok-statement.ensures c.in_ok-push.ensures.ok
    ∙ c.loop-alloc.invariant

pub statements-loop-alloc-smaller : goal.statements-loop-alloc-smaller
statements-loop-alloc-smaller t c =
    ok_shorter (statement_of (block_at c.args.depth)) (shortens_statement (block_at c.args.depth) (keeps_block c.args.depth)) c.loop-alloc.rest.now c.in_ok-statement.after.now c.in_ok-statement.statement c.in_ok-statement.ensures
