use Rattle.std.proofs.Common.{ap, ◌∙◌}
use Rattle.rel_base.specs.Among.{rows_in}
use Rattle.rel_base.specs.Tables.{tables_at}
use Rattle.query_plan.proofs.Going.{read_early}
use Rattle.query_plan.proofs.Grouply.{only_source}
use Rattle.query_plan.proofs.query.read_only.Goals as goal

pub returns-clause-rows : goal.returns-clause-rows
returns-clause-rows g c =
    let asked = c.args.asked.now in
    let tables = tables_at asked.height (g.V.Versions.history asked.versions.now) in
    only_source asked.defs.now tables asked.comparisons.now asked.steps.now c.step_at-step.result c.in_ok-read.read c.in_ok-rows.rows c.requires.one c.step_at-step.ensures.found c.in_ok-read.ensures
    (c.in_ok-rows.ensures ∙ ap (λ defs. rows_in defs c.in_ok-read.read tables) c.requires.tables)

pub returns-clause-early : goal.returns-clause-early
returns-clause-early g c =
    let asked = c.args.asked.now in
    read_early (g.V.Versions.tables asked.versions.now) (tables_at asked.height (g.V.Versions.history asked.versions.now)) c.in_ok-read.read c.in_ok-rows.rows c.requires.can.early c.in_ok-rows.ensures
