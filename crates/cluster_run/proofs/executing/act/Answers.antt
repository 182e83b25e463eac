use Rattle.std.proofs.Common.{rules, ◌+◌, ◌∙◌, ◌≡◌}
use Rattle.cluster_run.proofs.Arriving.{brings_fed, brings_nothing}
use Rattle.turn_lock.specs.Passes.{mine, pass_number}
use Rattle.cluster_run.proofs.executing.act.Goals as goal

pub feed-requires-clause-new : goal.feed-requires-clause-new
feed-requires-clause-new g c κs within = c.requires.stands.hand.true_to.brought

pub returns-then-feeds-clause-brings : goal.returns-then-feeds-clause-brings
returns-then-feeds-clause-brings g c =
    let same : pass_number c.args.pass ≡ c.args.crew.now.executors + 1 = search rules in
    brings_fed c.args.crew.now.executors c.args.crew.now.arrivals.now (pass_number c.feed.result) (mine c.feed.result) (c.feed.ensures.same.same_number ∙ same) c.feed.ensures.in_order

pub returns-else-feeds-clause-brings : goal.returns-else-feeds-clause-brings
returns-else-feeds-clause-brings g c =
    brings_nothing c.args.crew.now.executors c.args.crew.now.arrivals.now (pass_number c.execute.result) (mine c.execute.result) c.execute.ensures.comes.hand.true_to.brought
