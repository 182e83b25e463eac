use Rattle.std.proofs.Common.{length, rules, subst, sym, ◌<◌, ◌^◌, ◌≡◌}
use Rattle.block_work.proofs.Resulting.{few_positions, few_written, within_limits}
use Rattle.block_work.proofs.chain.add_result.Goals as goal
use Rattle.node_model.specs.History.{placed_of}

pub count_writes-requires : goal.count_writes-requires
count_writes-requires g c =
    let committed : c.as_slice.result.now ≡ c.args.work.now.committed.items = search rules in
    subst (λ all. length (placed_of all) < 2 ^ 32) (sym committed)
    (few_written c.args.work.now.outcomes.items c.args.work.now.committed.items (within_limits (g.V.Versions.tables c.args.versions.now) c.args.work.now c.requires.small c.requires.consistent c.requires.few))

pub result_of-requires-clause-limits : goal.result_of-requires-clause-limits
result_of-requires-clause-limits g c = within_limits (g.V.Versions.tables c.args.versions.now) c.args.work.now c.requires.small c.requires.consistent c.requires.few

pub result_of-requires-clause-few : goal.result_of-requires-clause-few
result_of-requires-clause-few g c = few_positions (g.V.Versions.tables c.args.versions.now) c.args.work.now c.requires.consistent c.requires.few
