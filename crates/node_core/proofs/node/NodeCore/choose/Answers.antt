use Rattle.std.proofs.Common.{ap, length, rules, sym, ◌%◌, ◌∙◌, ◌≡◌}
use Rattle.std.specs.Prelude.{slice_get}
use Rattle.node_core.proofs.Claims.{choose_due, choose_nth}
use Rattle.node_core.specs.Choosing.{due_in}
use Rattle.node_core.specs.Core.{Core, world_of}
use Rattle.node_core.specs.Rows.{shown_all}
use Rattle.node_model.specs.Steps.{chosen}
use Rattle.node_model.specs.World.{eligible}
use Rattle.node_model.specs.declared.journal.Pick.TheVariants as pick
use Rattle.node_core.proofs.node.NodeCore.choose.Goals as goal

pub returns-in-Nth-clause-chosen : goal.returns-in-Nth-clause-chosen
returns-in-Nth-clause-chosen g c =
    let s = c.self.inside in
    let at : c.height.result ≡ length s.chain.blocks = search rules in
    let found : c.find_nth.result ≡ slice_get (eligible c.height.result (shown_all s.jobs)) (c.in-Nth.n % length (eligible c.height.result (shown_all s.jobs))) = search rules in
    found ∙ choose_nth _ c.self.invariant.0 c.height.result c.in-Nth.n at ∙ ap (λ (core : Core). chosen core.app (world_of core) (pick.Nth c.in-Nth.n)) c.self.view_is
    ∙ ap (λ p. chosen c.args.self.now.app (world_of c.args.self.now) p) (sym c.in-Nth.is)

pub returns-in-Due-clause-chosen : goal.returns-in-Due-clause-chosen
returns-in-Due-clause-chosen g c =
    let s = c.self.inside in
    let found : c.find_due.result ≡ due_in s.chain.app.value.app s.ids s.work s.jobs = search rules in
    found ∙ choose_due _ c.self.invariant.0 ∙ ap (λ (core : Core). chosen core.app (world_of core) pick.Due) c.self.view_is
    ∙ ap (λ p. chosen c.args.self.now.app (world_of c.args.self.now) p) (sym c.in-Due.is)
