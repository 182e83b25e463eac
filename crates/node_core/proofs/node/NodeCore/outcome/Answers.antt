use Rattle.std.proofs.Common.{ap, rules, ◌∙◌, ◌≡◌}
use Rattle.std.specs.Option.{option_copied}
use Rattle.node_core.proofs.Outcomes.{outcome_is}
use Rattle.node_core.specs.Core.{Core, world_of}
use Rattle.node_core.specs.Finding.{outcome_by}
use Rattle.node_core.specs.Looking.{first_outcome, told_of}
use Rattle.node_core.proofs.node.NodeCore.outcome.Goals as goal

pub returns : goal.returns
returns g c =
    let s = c.self.inside in
    let found : option_copied c.find_outcome.result ≡ outcome_by s.ids s.chain.blocks s.work c.args.id.now = search rules in
    found ∙ outcome_is _ c.self.invariant.0 c.args.id.now ∙ ap (λ (core : Core). first_outcome c.args.id.now (told_of (world_of core))) c.self.view_is
