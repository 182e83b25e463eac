use Rattle.std.proofs.Common.{ap, length, ◌∙◌}
use Rattle.node_core.proofs.Settled.{height_is}
use Rattle.node_core.specs.Core.{Core, world_of}
use Rattle.node_core.proofs.node.NodeCore.height.Goals as goal

pub returns : goal.returns
returns g c = c.height.ensures ∙ height_is _ c.self.invariant.0 ∙ ap (λ (core : Core). length (world_of core).sealed) c.self.view_is
