use Rattle.std.proofs.Common.{refl}
use Rattle.node_model.specs.Steps.{ToCommit}
use Rattle.schedule_sim.proofs.Bared.{stepped}
use Rattle.schedule_sim.proofs.Taken.{no_processor, step_hands}
use Rattle.schedule_sim.proofs.simulation.SimulatedNode.commit.Goals as goal

pub returns-clause-takes : goal.returns-clause-takes
returns-clause-takes g c = stepped c.args.self.now.node c.commit.new.self 0 ToCommit _ c.in_ok-commit.ensures.step

pub returns-clause-hands : goal.returns-clause-hands
returns-clause-hands g c = step_hands c.args.self.now.node c.commit.new.self 0 ToCommit _ c.args.self.now.hands no_processor refl c.in_ok-commit.ensures.step c.requires.hands
