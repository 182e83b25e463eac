use Rattle.query_plan.proofs.Nexts.{all_next}
use Rattle.query_plan.proofs.tally.next_all.Goals as goal

pub loop-i-init : goal.loop-i-init
loop-i-init c = all_next c.args.tuple.now c.args.items.now c.args.tallies.now
