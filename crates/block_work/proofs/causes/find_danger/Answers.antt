use Rattle.std.proofs.Common.{arith, length, sym, ◌∙◌}
use Rattle.rw_graph.proofs.Least.{few_on_path}
use Rattle.rw_graph.specs.Graph.{has_edge, positions_of}
use Rattle.rw_graph.specs.Held.{holds}
use Rattle.block_work.proofs.causes.find_danger.Goals as goal

pub returns-in-Some-clause-few : goal.returns-in-Some-clause-few
returns-in-Some-clause-few c =
    let few = few_on_path (λ pos. pos) (has_edge c.args.set.now) (holds c.args.edges.now.out) (holds c.args.edges.now.into) (positions_of c.args.set.now)
    (length (positions_of c.args.set.now)) c.in-Some.path (sym c.in_ok-cycle.ensures ∙ c.in-Some.is) in
    omega (arith, few, c.requires.few)
