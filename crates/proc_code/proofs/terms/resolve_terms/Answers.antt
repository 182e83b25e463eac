use Rattle.std.proofs.Common.{◌≡◌, ◌<◌, length, rules}
use Rattle.std.specs.Prelude.{slice_index_or}
use Rattle.proc_code.specs.Resolved.{term_of}
use Rattle.proc_code.proofs.Walked.{mapped}
use Rattle.proc_code.proofs.terms.resolve_terms.Goals as goal

pub loop-expr-preserved : goal.loop-expr-preserved
loop-expr-preserved c =
    let within : c.loop-expr.expr-index < length c.args.exprs.now = search rules in
    let here : slice_index_or c.args.exprs.now c.loop-expr.expr-index c.expr-item.result ≡ c.expr-item.result = search rules in
    mapped (term_of c.args.columns.now c.args.names.now) c.args.exprs.now c.loop-expr.expr-index c.expr-item.result c.loop-expr.terms c.push.new.self c.in_ok-term.term
    within here c.loop-expr.invariant c.in_ok-push.ensures.ok c.in_ok-term.ensures
