use Rattle.std.proofs.Common.{subst}
use Rattle.node_core.proofs.Fresh_ids.{Gains, has_more}
use Rattle.node_core.proofs.delivering.repeats.Goals as goal

-- the copy of the id is the id
pub returns-clause-joins : goal.returns-clause-joins
returns-clause-joins c = λ txs has.
    has_more c.args.before.now c.insert.new.self txs c.args.tx.now
    (subst (λ id. Gains c.args.before.now c.insert.new.self id) c.in_ok-copy.ensures c.in_ok-is_new.ensures.updates.0) has
