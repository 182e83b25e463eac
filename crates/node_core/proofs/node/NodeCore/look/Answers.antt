use Rattle.std.proofs.Common.{ap, length, rules, ◌+◌, ◌∙◌, ◌≡◌, ◌≤◌}
use Rattle.node_core.proofs.Telling.{look_high, look_rows}
use Rattle.node_core.specs.Core.{Core}
use Rattle.node_core.specs.Looking.{looks}
use Rattle.rel_base.specs.Among.{rows_in}
use Rattle.rel_base.specs.Tables.{tables_at}
use Rattle.node_core.proofs.node.NodeCore.look.Goals as goal

pub returns-then-height-sealed : goal.returns-then-height-sealed
returns-then-height-sealed g c =
    let s = c.self.inside in
    let at : c.height-sealed.result ≡ length s.chain.blocks = search rules in
    let above : c.height-sealed.result + 1 ≤ c.args.height = search rules in
    look_high _ c.self.invariant.0 c.args.height c.height-sealed.result c.args.read.now at above ∙ ap (λ (core : Core). looks core c.args.height c.args.read.now) c.self.view_is

pub returns : goal.returns
returns g c =
    let s = c.self.inside in
    let at : c.height-sealed.result ≡ length s.chain.blocks = search rules in
    let within : c.args.height ≤ c.height-sealed.result = search rules in
    let rows : c.in_ok-rows.rows ≡ rows_in (g.V.Versions.tables s.chain.versions) c.args.read.now (tables_at c.args.height (g.V.Versions.history s.chain.versions)) = search rules in
    look_rows _ c.self.invariant.0 c.args.height c.height-sealed.result c.args.read.now c.in_ok-rows.rows at within rows ∙ ap (λ (core : Core). looks core c.args.height c.args.read.now) c.self.view_is
