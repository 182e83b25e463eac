use Rattle.std.proofs.Common.{rules, ◌≡◌, ◌∙◌, ap}
use Rattle.std.specs.List.{position_from}
use Rattle.node_core.proofs.Table.{number_is}
use Rattle.node_core.specs.Rows.{row_is_for}
use Rattle.node_model.specs.World.{number_of_job}
use Rattle.node_core.specs.Rows.{shown_all}
use Rattle.node_core.proofs.jobs.Jobs.find.Goals as goal

pub returns : goal.returns
returns c =
    let found : c.find_near.result ≡ position_from (row_is_for c.args.tx.now) 1 c.self.inside.rows.items = search rules in
    found ∙ number_is c.args.tx.now 1 c.self.inside.rows.items ∙ ap (λ rows. number_of_job c.args.tx.now (shown_all rows)) c.self.view_is
