use Rattle.std.proofs.Common.{arith}
use Rattle.std.proofs.lemmas.Grind.{common_steps}
use Rattle.schedule_sim.proofs.simulation.SimulatedNode.take_lines.Goals as goal

pub take_line-requires-clause-line : goal.take_line-requires-clause-line
take_line-requires-clause-line g c = grind (arith, common_steps)

pub loop-line-preserved : goal.loop-line-preserved
loop-line-preserved g c = grind (arith, common_steps)

pub returns-clause-state : goal.returns-clause-state
returns-clause-state g c = grind (arith, common_steps)
