use Rattle.std.proofs.Common.{List, [], ap, length, rules, subst, sym, take, ◌+◌, ◌++◌, ◌<◌, ◌∙◌, ◌∷◌}
use Rattle.std.proofs.lemmas.List.{take_more}
use Rattle.cluster_run.proofs.Arriving.{sub_all}
use Rattle.cluster_run.proofs.Following.{same_self}
use Rattle.cluster_run.specs.Arrivals.{IsSubsequence, arrived}
use Rattle.proc_syntax.specs.declared.call.Tx.{Tx}
use Rattle.turn_lock.specs.Passes.{mine}
use Rattle.cluster_run.proofs.executing.feed.Goals as goal

pub loop-tx-init : goal.loop-tx-init
loop-tx-init g c = (same_self c.args.pass, search rules, search rules, subst (λ (txs : List Tx). IsSubsequence txs []) (sym c.requires.new) tt)

pub returns-then-not-bring-clause-in_order : goal.returns-then-not-bring-clause-in_order
returns-then-not-bring-clause-in_order g c =
    let txs : List Tx = c.args.crew.now.arrivals.now in
    let within : c.loop-tx.tx-index < length txs = search rules in
    let more = take_more txs c.loop-tx.tx-index c.tx-item.result within ∙ ap (λ (tx : Tx). take c.loop-tx.tx-index txs ++ tx ∷ []) (sym c.tx-item.is) in
    sub_all (arrived (mine c.bring.new.pass)) txs (c.loop-tx.tx-index + 1)
    (subst (IsSubsequence (arrived (mine c.bring.new.pass))) (sym more) (c.bring.ensures.in_order (take c.loop-tx.tx-index txs) c.loop-tx.invariant.3))

pub returns-clause-in_order : goal.returns-clause-in_order
returns-clause-in_order g c = sub_all (arrived (mine c.loop-tx.pass)) c.args.crew.now.arrivals.now c.loop-tx.tx-index c.loop-tx.invariant.3
