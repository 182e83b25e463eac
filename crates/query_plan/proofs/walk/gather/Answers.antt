use Rattle.std.proofs.Common.{◌≡◌, Err, rules}
use Rattle.query_plan.proofs.Going.{gathered, not_gathered}
use Rattle.query_plan.specs.Walk.{tables_of}
use Rattle.rel_base.specs.Tables.{tables_at}
use Rattle.query_plan.proofs.walk.gather.Goals as goal

pub returns-in_err-walk : goal.returns-in_err-walk
returns-in_err-walk g c =
    let asked = c.args.asked.now in
    let same : c.from_residual.result ≡ Err c.in_err-walk.field-0.0 = search rules in
    not_gathered (tables_at asked.height (g.V.Versions.history asked.versions.now)) asked.comparisons.now asked.columns.now (tables_of asked.steps.now) c.new-rows.result c.walk.new.rows c.new-prefix.result
    c.in_err-walk.field-0.0 c.from_residual.result same c.new-rows.ensures c.new-prefix.ensures c.in_err-walk.ensures.rows

pub returns : goal.returns
returns g c =
    let asked = c.args.asked.now in
    gathered (tables_at asked.height (g.V.Versions.history asked.versions.now)) asked.comparisons.now asked.columns.now (tables_of asked.steps.now) c.new-rows.result c.walk.new.rows c.new-prefix.result
    c.new-rows.ensures c.new-prefix.ensures c.in_ok-walk.ensures.rows
