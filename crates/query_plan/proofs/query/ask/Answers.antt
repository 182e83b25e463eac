use Rattle.std.proofs.Common.{◌≡◌, length, ap, subst, sym, ◌∙◌}
use Rattle.query_plan.proofs.Asking.{can_ask, none_of, one_step, sources_of_steps}
use Rattle.query_plan.proofs.Plainly.{not_plain}
use Rattle.query_plan.specs.Plan.{steps_of}
use Rattle.query_plan.specs.Walk.{CanAsk, tables_of}
use Rattle.rel_base.specs.Tables.{tables_at}
use Rattle.query_plan.proofs.query.ask.Goals as goal

pub ask_plain-requires-clause-can : goal.ask_plain-requires-clause-can
ask_plain-requires-clause-can g c =
    let select = c.args.select.now in
    let tables = c.args.tables.now in
    let S = tables_at c.args.height (g.V.Versions.history c.args.versions.now) in
    let steps : c.as_slice-3.result.now ≡ steps_of tables select = c.as_slice-3.ensures ∙ c.in_ok-steps.ensures ∙ ap (λ ts. steps_of ts select) c.as_slice.ensures in
    subst (λ defs. CanAsk defs S c.as_slice-4.result.now c.as_slice-3.result.now) (sym c.as_slice-2.ensures)
    (subst (λ cs. CanAsk tables S cs c.as_slice-3.result.now) (sym c.as_slice-4.ensures)
    (subst (CanAsk tables S select.comparisons) (sym steps)
    (can_ask tables select c.requires.select c.args.sealed c.args.height (g.V.Versions.history c.args.versions.now) c.requires.sealed c.requires.history)))

pub ask_plain-requires-clause-sources : goal.ask_plain-requires-clause-sources
ask_plain-requires-clause-sources g c =
    let select = c.args.select.now in
    let tables = c.args.tables.now in
    let steps : c.as_slice-3.result.now ≡ steps_of tables select = c.as_slice-3.ensures ∙ c.in_ok-steps.ensures ∙ ap (λ ts. steps_of ts select) c.as_slice.ensures in
    ap tables_of steps ∙ sources_of_steps tables select c.requires.select

pub ask_grouped-requires-clause-can : goal.ask_grouped-requires-clause-can
ask_grouped-requires-clause-can g c =
    let select = c.args.select.now in
    let tables = c.args.tables.now in
    let S = tables_at c.args.height (g.V.Versions.history c.args.versions.now) in
    let steps : c.as_slice-3.result.now ≡ steps_of tables select = c.as_slice-3.ensures ∙ c.in_ok-steps.ensures ∙ ap (λ ts. steps_of ts select) c.as_slice.ensures in
    subst (λ defs. CanAsk defs S c.as_slice-4.result.now c.as_slice-3.result.now) (sym c.as_slice-2.ensures)
    (subst (λ cs. CanAsk tables S cs c.as_slice-3.result.now) (sym c.as_slice-4.ensures)
    (subst (CanAsk tables S select.comparisons) (sym steps)
    (can_ask tables select c.requires.select c.args.sealed c.args.height (g.V.Versions.history c.args.versions.now) c.requires.sealed c.requires.history)))

pub ask_grouped-requires-clause-sources : goal.ask_grouped-requires-clause-sources
ask_grouped-requires-clause-sources g c =
    let select = c.args.select.now in
    let tables = c.args.tables.now in
    let steps : c.as_slice-3.result.now ≡ steps_of tables select = c.as_slice-3.ensures ∙ c.in_ok-steps.ensures ∙ ap (λ ts. steps_of ts select) c.as_slice.ensures in
    ap tables_of steps ∙ sources_of_steps tables select c.requires.select

pub ask_grouped-requires-clause-grouped : goal.ask_grouped-requires-clause-grouped
ask_grouped-requires-clause-grouped g c =
    let select = c.args.select.now in
    let grouped = not_plain select (sym c.in_ok-columns.ensures ∙ none_of c.in_ok-columns.columns (sym c.is_some.ensures ∙ c.if-is_some.false)) in
    grouped

pub ask_grouped-requires-clause-one : goal.ask_grouped-requires-clause-one
ask_grouped-requires-clause-one g c =
    let select = c.args.select.now in
    let tables = c.args.tables.now in
    let steps : c.as_slice-3.result.now ≡ steps_of tables select = c.as_slice-3.ensures ∙ c.in_ok-steps.ensures ∙ ap (λ ts. steps_of ts select) c.as_slice.ensures in
    let grouped = not_plain select (sym c.in_ok-columns.ensures ∙ none_of c.in_ok-columns.columns (sym c.is_some.ensures ∙ c.if-is_some.false)) in
    ap length steps ∙ one_step tables select c.requires.select grouped
