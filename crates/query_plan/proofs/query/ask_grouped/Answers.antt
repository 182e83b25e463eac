use Rattle.std.proofs.Common.{◌≡◌, [], ap, subst, sym, ◌∙◌}
use Rattle.std.specs.Map.{values_of}
use Rattle.query_plan.proofs.Grouply.{few_grouply}
use Rattle.query_plan.specs.Answer.{Answers, all_of, ordered}
use Rattle.query_plan.specs.Tallies.{passing, put_all, value_of}
use Rattle.query_plan.specs.Walk.{tables_of}
use Rattle.rel_base.specs.Tables.{tables_at}
use Rattle.query_plan.proofs.query.ask_grouped.Goals as goal

pub returns-in-Ok : goal.returns-in-Ok
returns-in-Ok g c =
    let asked = c.args.asked.now in
    let select = c.args.select.now in
    let tables = tables_at asked.height (g.V.Versions.history asked.versions.now) in
    let cs = asked.comparisons.now in
    let rows = c.in_ok-rows.rows in
    let entries = c.in-Ok.groups.entries in
    let put : entries ≡ put_all select.groups select.items [] (passing cs rows) =
    c.in-Ok.ensures.0 ∙ ap (λ columns. put_all columns c.as_slice-2.result.now [] (passing cs rows)) c.as_slice.ensures ∙ ap (λ items. put_all select.groups items [] (passing cs rows)) c.as_slice-2.ensures in
    subst (Answers c.ordered.result)
    (ap (λ order. ordered order (all_of (all_of value_of) (values_of entries))) c.as_slice-in-Ok.ensures
    ∙ sym (few_grouply tables select (tables_of asked.steps.now) cs rows c.requires.sources c.requires.comparisons c.in_ok-rows.ensures.rows entries c.requires.grouped (put, c.in-Ok.ensures.1)))
    c.ordered.ensures
