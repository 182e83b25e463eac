use Rattle.cluster_run.proofs.Arriving.{feeds_on, sub_more}
use Rattle.cluster_run.specs.Arrivals.{arrived}
use Rattle.node_core.specs.Answers.{arrived_as}
use Rattle.std.proofs.Common.{[], ◌∷◌}
use Rattle.turn_lock.specs.Passes.{mine}
use Rattle.cluster_run.proofs.executing.bring.Goals as goal

pub returns-then-load-clause-in_order : goal.returns-then-load-clause-in_order
returns-then-load-clause-in_order g c = λ front sub. sub_more (arrived (mine c.args.pass.now)) front (c.args.tx.now ∷ []) sub

pub returns-clause-in_order : goal.returns-clause-in_order
returns-clause-in_order g c = λ front sub. feeds_on c.args.pass.now c.arrive.new.pass c.args.tx.now front arrived_as c.arrive.result c.arrive.ensures.turn c.arrive.ensures.err sub
