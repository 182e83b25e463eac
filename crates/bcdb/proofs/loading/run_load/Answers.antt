use Rattle.std.proofs.Common.{rules, ◌≡◌}
use Rattle.bcdb.proofs.Orders.{numbered_from}
use Rattle.bcdb.proofs.loading.run_load.Goals as goal

pub run_cluster-nodes-requires-clause-numbered : goal.run_cluster-nodes-requires-clause-numbered
run_cluster-nodes-requires-clause-numbered g c κs within =
    let same : c.as_slice.result.now ≡ c.args.load.blocks = search rules in
    numbered_from c.args.load.blocks c.as_slice.result.now same c.requires.blocks
