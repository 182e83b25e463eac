use Rattle.std.proofs.Common.{Some, rules, slice_get, ◌≡◌}
use Rattle.schedule_sim.proofs.Taken.{deliver_hands, deliver_takes}
use Rattle.schedule_sim.proofs.simulation.SimulatedNode.deliver.Goals as goal

pub returns-in_ok-deliver-in-Some-clause-takes : goal.returns-in_ok-deliver-in-Some-clause-takes
returns-in_ok-deliver-in-Some-clause-takes g c =
    let here : slice_get c.args.blocks.now c.height.result ≡ Some c.in-Some.block.now = search rules in
    deliver_takes c.args.self.now.node c.deliver.new.self c.args.blocks.now c.height.result c.in-Some.block.now _ c.height.ensures here c.in_ok-deliver-in-Some.ensures.step

pub returns-in_ok-deliver-in-Some-clause-hands : goal.returns-in_ok-deliver-in-Some-clause-hands
returns-in_ok-deliver-in-Some-clause-hands g c =
    deliver_hands c.args.self.now.node c.deliver.new.self c.in-Some.block.now _ c.args.self.now.hands c.in_ok-deliver-in-Some.ensures.step c.requires.hands
