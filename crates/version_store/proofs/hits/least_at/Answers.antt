use Rattle.std.proofs.Common.{◌≡◌, ◌∙◌, ◌<◌, ◌-◌, suc, ap, arith, drop, length}
use Rattle.rel_base.specs.Tables.{writes_between}
use Rattle.rel_base.proofs.Lists.{item_of}
use Rattle.row_sets.specs.Log.{history_of, stamped_of}
use Rattle.version_store.specs.Hits.{least_of, lesser_hit}
use Rattle.version_store.proofs.Leasts.{get_history, least_from}
use Rattle.version_store.proofs.hits.least_at.Goals as goal

-- one write more
pub loop-start-preserved : goal.loop-start-preserved
loop-start-preserved c =
    let watch = c.args.watch.now in
    let history = history_of c.args.log.now in
    let low = c.loop-start-test.true in
    let within = c.loop-start.invariant.0 in
    let number = c.loop-start.start - 1 in
    let next : c.loop-start.start ≡ suc number = omega (arith, low) in
    let below : number < length c.args.log.now = omega (arith, low, within) in
    let item = item_of c.args.log.now number below in
    let there = get_history c.args.log.now number item.0 item.1 in (
      omega (arith, within),
      c.least_with-least.ensures.on_table,
      c.least_with-least.ensures.least (stamped_of item.0) there
          ∙ ap (lesser_hit watch (stamped_of item.0))
          (c.loop-start.invariant.2 ∙ ap (λ n. least_of watch.def.now watch.read.now (writes_between watch.after watch.upto (drop n history))) next)
          ∙ least_from watch history number (stamped_of item.0) there,
    )
