use Rattle.std.proofs.Common.{None, refl}
use Rattle.schedule_sim.proofs.Bared.{stays}
use Rattle.schedule_sim.proofs.Lines.{read_idle}
use Rattle.schedule_sim.proofs.Taken.{hand_is}
use Rattle.schedule_sim.specs.Bare.{state_of}
use Rattle.schedule_sim.specs.Running.{to_read}
use Rattle.schedule_sim.proofs.simulation.SimulatedNode.read.Goals as goal

pub returns-in-None-clause-takes : goal.returns-in-None-clause-takes
returns-in-None-clause-takes g c =
    let node = c.args.self.now.node in
    let none = hand_is node c.args.actor c.args.self.now.hands None c.requires.actor c.requires.hands c.in-None.ensures.work in
    stays node node c.args.actor (to_read node.app (state_of node) c.args.actor) refl (read_idle node c.args.actor none)
