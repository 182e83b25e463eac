use Rattle.std.proofs.Common.{All, [], ap, length, rules, subst, sym, take, ◌+◌, ◌++◌, ◌<◌, ◌≤◌, ◌∙◌, ◌∷◌}
use Rattle.std.proofs.lemmas.List.{take_all, take_more}
use Rattle.node_core.proofs.Newest.{held_more}
use Rattle.node_core.specs.ById.{HasEntry, tx_ids}
use Rattle.node_core.proofs.index.hold_all.Goals as goal

pub loop-tx-preserved : goal.loop-tx-preserved
loop-tx-preserved c =
    let within : c.loop-tx.tx-index < length c.args.txs.now = search rules in
    let more = take_more c.args.txs.now c.loop-tx.tx-index c.tx-item.result within ∙ ap (λ tx. take c.loop-tx.tx-index c.args.txs.now ++ tx ∷ []) (sym c.tx-item.is) in (
      held_more c.loop-tx.index c.hold.new.self (take c.loop-tx.tx-index c.args.txs.now) (take (c.loop-tx.tx-index + 1) c.args.txs.now) c.tx-item.result more c.hold.ensures.kept (search rules) c.loop-tx.invariant.0,
      search rules,
      search rules,
    )

pub returns-clause-held : goal.returns-clause-held
returns-clause-held c =
    let end : length c.args.txs.now ≤ c.loop-tx.tx-index = search rules in
    subst (λ txs. All (HasEntry c.loop-tx.index) (tx_ids txs)) (take_all c.loop-tx.tx-index c.args.txs.now end) c.loop-tx.invariant.0
