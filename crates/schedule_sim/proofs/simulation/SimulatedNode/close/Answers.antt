use Rattle.std.proofs.Common.{length, rules, true, ◌==◌, ◌≡◌}
use Rattle.node_core.specs.Core.{world_of}
use Rattle.schedule_sim.proofs.Results.{all_told}
use Rattle.schedule_sim.proofs.simulation.SimulatedNode.close.Goals as goal

pub returns-clause-told : goal.returns-clause-told
returns-clause-told g c =
    let node = c.args.self.node in
    let all : (length (world_of node).sealed == length c.args.blocks.now) ≡ true = search rules in
    all_told node c.args.blocks.now c.in_ok-made.made all c.close.ensures.legal c.in_ok-made.ensures.closed
