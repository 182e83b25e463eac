use Rattle.std.proofs.Common.{drop, ◌≡◌}
use Rattle.std.specs.List.{AllByRecursion}
use Rattle.schedule_sim.specs.Bare.{given_in, state_of}
use Rattle.schedule_sim.specs.InHands.{AreInHands}
use Rattle.schedule_sim.specs.Running.{after_lines}
use Rattle.schedule_sim.specs.Steps.{IsStep}
use Rattle.schedule_sim.proofs.simulation.SimulatedNode.take_lines.Given as goal

-- what is left comes to what all lines come to
abbrev pub invariant-loop-line : goal.invariant-loop-line
invariant-loop-line g l = (l.self.node.app ≡ l.initial.self.node.app)
    × (after_lines (given_in l.initial.self.node l.blocks l.arrivals) (state_of l.self.node) (drop l.line-index l.lines) ≡ after_lines (given_in l.initial.self.node l.blocks l.arrivals) (state_of l.initial.self.node) l.lines)
    × AllByRecursion IsStep (drop l.line-index l.lines)
    × AreInHands l.self.node l.self.hands
