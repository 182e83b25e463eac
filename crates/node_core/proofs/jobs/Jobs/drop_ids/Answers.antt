use Rattle.std.proofs.Common.{map, rules, ◌≡◌}
use Rattle.node_core.proofs.Standing.{table_dropped}
use Rattle.node_core.specs.Over.{drop_among}
use Rattle.proc_syntax.specs.declared.call.Tx.{Tx}
use Rattle.node_core.proofs.jobs.Jobs.drop_ids.Goals as goal

pub invariant_of-self : goal.invariant_of-self
invariant_of-self c =
    let rows : c.drop_all.new.rows.items ≡ map (drop_among (map (λ (tx : Tx). tx.id) c.args.txs.now)) c.self.inside.rows.items = search rules in
    table_dropped (map (λ (tx : Tx). tx.id) c.args.txs.now) c.self.inside.rows.items c.drop_all.new.rows.items c.self.inside.held c.self.inside.bounds c.self.inside.index c.self.invariant rows
