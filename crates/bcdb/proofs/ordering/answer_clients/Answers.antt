use Rattle.std.proofs.Common.{Err, IfOk, List, Result, rules, subst, sym, ◌≡◌}
use Rattle.bcdb.proofs.Drafts.{replies_bad}
use Rattle.bcdb.proofs.ordering.answer_clients.Goals as goal
use Rattle.bcdb.specs.Traced.{RepliesOrder}
use Rattle.bcdb.specs.declared.refusal.BadArrivals.{BadArrivals}
use Rattle.proc_syntax.specs.declared.call.Tx.{Tx}

pub returns-in-Err-clause-replies : goal.returns-in-Err-clause-replies
returns-in-Err-clause-replies g c =
    let read : c.args.read ≡ Err c.in-Err.bad = search rules in
    subst (λ (found : Result (List (List Tx)) BadArrivals). IfOk c.refuse_arrivals.result (RepliesOrder c.args.most found)) (sym read)
    (replies_bad c.args.most c.in-Err.bad c.refuse_arrivals.result c.refuse_arrivals.ensures.means)
