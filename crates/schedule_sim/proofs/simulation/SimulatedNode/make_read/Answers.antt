use Rattle.schedule_sim.proofs.Taken.{read_hands, read_takes}
use Rattle.schedule_sim.proofs.simulation.SimulatedNode.make_read.Goals as goal

pub returns-clause-takes : goal.returns-clause-takes
returns-clause-takes g c =
    read_takes c.args.self.now.node c.args.actor c.args.work c.requires.work c.requires.others.legal c.read.new.self c.read.new.work c.in_ok-read.field-0 c.requires.goes c.in_ok-read.ensures.step

pub returns-clause-hands : goal.returns-clause-hands
returns-clause-hands g c =
    read_hands c.args.self.now.node c.args.actor c.args.work c.requires.work c.requires.others.legal c.read.new.self c.read.new.work c.in_ok-read.field-0 c.requires.goes c.in_ok-read.ensures.step
    c.args.self.now.hands c.put_job.new.hands c.requires.others c.in_ok-read.ensures.held c.in_ok-read.ensures.answered c.put_job.ensures
