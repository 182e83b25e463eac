use Rattle.std.proofs.Common.{Some, rules, ◌≡◌}
use Rattle.schedule_sim.proofs.Taken.{arrive_hands, arrive_takes}
use Rattle.schedule_sim.specs.Running.{arrival}
use Rattle.schedule_sim.proofs.simulation.SimulatedNode.arrive.Goals as goal

pub returns-in_ok-arrive-in-Some-clause-takes : goal.returns-in_ok-arrive-in-Some-clause-takes
returns-in_ok-arrive-in-Some-clause-takes g c =
    let here : arrival c.args.arrivals.now c.args.number ≡ Some c.in-Some.tx.now = search rules in
    arrive_takes c.args.self.now.node c.arrive.new.self c.args.arrivals.now c.args.number c.in-Some.tx.now _ here c.in_ok-arrive-in-Some.ensures.step

pub returns-in_ok-arrive-in-Some-clause-hands : goal.returns-in_ok-arrive-in-Some-clause-hands
returns-in_ok-arrive-in-Some-clause-hands g c = arrive_hands c.args.self.now.node c.arrive.new.self c.in-Some.tx.now _ c.args.self.now.hands c.in_ok-arrive-in-Some.ensures.step c.requires.hands
