use Rattle.std.proofs.lemmas.Grind.{common_steps}
use Rattle.std.proofs.Common.{ap, arith, drop, length, rules, slice_index_or, subst, sym, ◌+◌, ◌<◌, ◌∙◌, ◌≡◌, ◌∷◌}
use Rattle.std.proofs.lemmas.List.{drop_more}
use Rattle.block_work.specs.Block.{work_of}
use Rattle.block_work.specs.Ids.{AddsAmong, HasFirstPlaces}
use Rattle.node_model.specs.Fold.{work_on}
use Rattle.plain_node.proofs.Holding.{step_on}
use Rattle.plain_node.proofs.process.decide_all.Goals as goal

pub returns-in_err-decide_next-clause-few : goal.returns-in_err-decide_next-clause-few
returns-in_err-decide_next-clause-few g c =
    let same : length c.decide_next.new.work.outcomes.items ≡ length c.loop-tx.work.outcomes.items = ap length c.in_err-decide_next.ensures.same in
    let so_far : length c.loop-tx.work.outcomes.items ≡ c.loop-tx.tx-index = c.loop-tx.invariant.3 in
    let within : c.loop-tx.tx-index < length c.args.txs.now = search rules in
    let most = c.requires.few in
    omega (arith, same, so_far, within, most)

pub loop-tx-preserved : goal.loop-tx-preserved
loop-tx-preserved g c =
    let app = c.args.chain.now.app.value.app in
    let before = c.loop-tx.invariant in
    let done = c.in_ok-decide_next.ensures in
    let here : slice_index_or c.args.txs.now c.loop-tx.tx-index c.tx-item.result ≡ c.tx-item.result = search rules in
    let within : c.loop-tx.tx-index < length c.args.txs.now = search rules in
    let first : drop c.loop-tx.tx-index c.args.txs.now ≡ c.tx-item.result ∷ drop (c.loop-tx.tx-index + 1) c.args.txs.now =
    drop_more c.args.txs.now c.loop-tx.tx-index c.tx-item.result within ∙ ap (λ tx. tx ∷ drop (c.loop-tx.tx-index + 1) c.args.txs.now) here in (
      done.number ∙ before.0,
      done.time ∙ before.1,
      done.consistent,
      done.count ∙ ap (λ n. n + 1) before.3,
      subst (λ number. AddsAmong c.args.ids.now c.decide_next.new.ids number c.decide_next.new.work.outcomes.items) before.0
          (done.added c.args.ids.now (subst (λ number. AddsAmong c.args.ids.now c.loop-tx.ids number c.loop-tx.work.outcomes.items) (sym before.0) before.4)),
      (λ sealed holds has.
          let was = before.5 sealed holds has in
          let next = done.work sealed holds (subst (λ number. HasFirstPlaces c.loop-tx.ids sealed number c.loop-tx.work.outcomes.items) (sym before.0) was.1) in (
            step_on app sealed c.args.work.now.number (drop c.loop-tx.tx-index c.args.txs.now) (drop (c.loop-tx.tx-index + 1) c.args.txs.now) c.tx-item.result
                (work_of c.loop-tx.work) (work_of c.decide_next.new.work) _ first
                (subst (λ number. work_of c.decide_next.new.work ≡ work_on app sealed number (work_of c.loop-tx.work) c.tx-item.result) before.0 next.0) was.0,
            subst (λ number. HasFirstPlaces c.decide_next.new.ids sealed number c.decide_next.new.work.outcomes.items) before.0 next.1,
          )),
    )

pub returns-clause-work : goal.returns-clause-work
returns-clause-work g c = grind (arith, common_steps)
