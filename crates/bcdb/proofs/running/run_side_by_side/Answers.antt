use Rattle.std.proofs.Common.{rules, ◌≡◌}
use Rattle.bcdb.proofs.Orders.{numbered_from}
use Rattle.bcdb.proofs.running.run_side_by_side.Goals as goal

pub run_cluster-requires-clause-numbered : goal.run_cluster-requires-clause-numbered
run_cluster-requires-clause-numbered g c κs within =
    let same : c.as_slice.result.now ≡ c.args.given.read.blocks = search rules in
    numbered_from c.args.given.read.blocks c.as_slice.result.now same c.requires.numbered
