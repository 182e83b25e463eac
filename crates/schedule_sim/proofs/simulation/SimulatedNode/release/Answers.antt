use Rattle.std.proofs.Common.{None, Some, refl}
use Rattle.node_model.specs.Steps.{Released}
use Rattle.schedule_sim.proofs.Bared.{stays}
use Rattle.schedule_sim.proofs.Keeping.{but}
use Rattle.schedule_sim.proofs.Lines.{release_idle}
use Rattle.schedule_sim.proofs.Taken.{hand_is, release_hands, release_takes}
use Rattle.schedule_sim.specs.Bare.{state_of}
use Rattle.schedule_sim.specs.Running.{to_release}
use Rattle.schedule_sim.proofs.simulation.SimulatedNode.release.Goals as goal

pub returns-in-None-clause-takes : goal.returns-in-None-clause-takes
returns-in-None-clause-takes g c =
    let node = c.args.self.now.node in
    let none = hand_is node c.args.actor c.args.self.now.hands None c.requires.actor c.requires.hands c.in-None.ensures.work in
    stays node node c.args.actor (to_release (state_of node) c.args.actor) refl (release_idle node c.args.actor none)

pub returns-in-Some-clause-takes : goal.returns-in-Some-clause-takes
returns-in-Some-clause-takes g c =
    let node = c.args.self.now.node in
    let is = hand_is node c.args.actor c.args.self.now.hands (Some c.in-Some.work) c.requires.actor c.requires.hands c.in-Some.ensures.work in
    release_takes node c.args.actor c.in-Some.work is c.requires.hands.legal c.release.new.self Released c.release.ensures

pub returns-in-Some-clause-hands : goal.returns-in-Some-clause-hands
returns-in-Some-clause-hands g c =
    let node = c.args.self.now.node in
    let is = hand_is node c.args.actor c.args.self.now.hands (Some c.in-Some.work) c.requires.actor c.requires.hands c.in-Some.ensures.work in
    release_hands node c.args.actor c.in-Some.work is c.requires.hands.legal c.release.new.self Released c.release.ensures c.take_job.new.hands
    (but node c.args.self.now.hands c.take_job.new.hands c.args.actor c.requires.hands c.in-Some.ensures.hands)
