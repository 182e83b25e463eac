use Rattle.std.proofs.Common.{arith}
use Rattle.std.proofs.lemmas.Grind.{common_steps}
use Rattle.std.proofs.Common.{◌≡◌, ◌<◌, length, rules}
use Rattle.std.specs.Prelude.{slice_index_or}
use Rattle.proc_code.specs.Resolved.{action_of}
use Rattle.proc_code.proofs.Walked.{mapped}
use Rattle.proc_code.proofs.statements.+resolve.Goals as goal

pub resolve_block-loop-stmt-preserved : goal.resolve_block-loop-stmt-preserved
resolve_block-loop-stmt-preserved t c =
    let within : c.loop-stmt.stmt-index < length c.args.stmts.now = search rules in
    let here : slice_index_or c.args.stmts.now c.loop-stmt.stmt-index c.stmt-item.result ≡ c.stmt-item.result = search rules in
    let resolver = c.args.resolver.now in
    mapped (action_of resolver.tables.now resolver.columns.now resolver.names.now) c.args.stmts.now c.loop-stmt.stmt-index c.stmt-item.result c.loop-stmt.actions c.push.new.self c.in_ok-action.action
    within here c.loop-stmt.invariant c.in_ok-push.ensures.ok c.in_ok-action.ensures

pub resolve_block-returns : goal.resolve_block-returns
resolve_block-returns t c = grind (arith, common_steps)
