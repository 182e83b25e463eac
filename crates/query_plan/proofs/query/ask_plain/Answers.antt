use Rattle.std.proofs.Common.{Ok, ap, sym, ◌∙◌}
use Rattle.query_plan.proofs.Plainly.{few_plainly}
use Rattle.query_plan.specs.Answer.{in_order}
use Rattle.query_plan.specs.Walk.{tables_of}
use Rattle.rel_base.specs.Tables.{tables_at}
use Rattle.query_plan.proofs.query.ask_plain.Goals as goal

pub returns-in_ok-rows-in-Ok : goal.returns-in_ok-rows-in-Ok
returns-in_ok-rows-in-Ok g c =
    let asked = c.args.asked.now in
    let select = c.args.select.now in
    let tables = tables_at asked.height (g.V.Versions.history asked.versions.now) in
    few_plainly tables select (tables_of asked.steps.now) asked.comparisons.now asked.columns.now c.requires.sources c.requires.comparisons c.in-Ok.rows c.requires.plain c.in-Ok.ensures.0 c.in-Ok.ensures.1
    ∙ ap (λ order. Ok (in_order order c.in-Ok.rows)) (sym c.as_slice.ensures) ∙ ap Ok (sym c.in_ok-rows-in-Ok.ensures)
