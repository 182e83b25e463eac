use Rattle.std.proofs.Common.{◌≡◌, ◌≤◌, ◌++◌, ◌∷◌, [], Err, ap, subst, sym, ◌∙◌, arith, rules, length}
use Rattle.std.proofs.lemmas.List.{nil_from_length}
use Rattle.std.proofs.lemmas.List.Elements.{All-rest}
use Rattle.query_plan.proofs.Going.{ends, gone_on, goes_last, passed_over, stops}
use Rattle.query_plan.specs.Cells.{IsEarly}
use Rattle.query_plan.specs.Walk.{Walks, going_by, going_on, holds_at_last, plain_row, tables_of}
use Rattle.rel_base.specs.Tables.{tables_at}
use Rattle.query_plan.proofs.walk.+walk.Goals as goal
use Rattle.query_plan.proofs.walk.+walk.Goals.{then-branch+in_ok-walk, else-branch}

pub returns-then-len-asked-clause-rows : goal.returns-then-len-asked-clause-rows
returns-then-len-asked-clause-rows g t c =
    let asked = c.args.asked.now in
    let tables = tables_at asked.height (g.V.Versions.history asked.versions.now) in
    let long : length c.args.prefix.now ≡ length asked.steps.now = omega arith in
    subst (Walks c.keep.result c.args.rows.now c.keep.new.rows)
    (ap (λ f. plain_row asked.columns.now f ∷ []) c.as_slice.ensures
    ∙ goes_last tables asked.comparisons.now asked.columns.now asked.steps.now c.args.prefix.now long c.requires.can.ready c.requires.prefix.held)
    c.keep.ensures

pub returns-in_err-walk-clause-rows : goal.returns-in_err-walk-clause-rows
returns-in_err-walk-clause-rows g t c =
    let asked = c.args.asked.now in
    let tables = tables_at asked.height (g.V.Versions.history asked.versions.now) in
    let prefix = c.args.prefix.now in
    let seen = c.in-Some.seen in
    let same : c.from_residual-in_err-walk.result ≡ Err c.in_err-walk.field-0.0 = search rules in
    let entered : c.enter.new.prefix ≡ prefix ++ seen ∷ [] = c.in_ok-enter.ensures.prefix ∙ ap (λ f. f ++ seen ∷ []) c.loop-seen.invariant.0 in
    let next : c.loop-seen.seen-iterator.rest.items ≡ seen ∷ c.next.new.self.rest.items = c.in-Some.ensures.steps.0 in
    stops tables asked.comparisons.now asked.columns.now (tables_of asked.steps.now) prefix seen c.next.new.self.rest.items c.loop-seen.rows c.walk.new.rows c.args.rows.now
    (going_on tables asked.comparisons.now asked.columns.now (tables_of asked.steps.now) prefix) c.in_err-walk.field-0.0 c.from_residual-in_err-walk.result same
    (subst (λ f. Walks (Err c.in_err-walk.field-0.0) c.loop-seen.rows c.walk.new.rows (going_on tables asked.comparisons.now asked.columns.now (tables_of asked.steps.now) f)) entered c.in_err-walk.ensures.rows)
    (ap (λ items. c.loop-seen.rows ++ going_by tables asked.comparisons.now asked.columns.now (tables_of asked.steps.now) prefix items) (sym next) ∙ c.loop-seen.invariant.3)

pub loop-seen-preserved : goal.loop-seen-preserved
loop-seen-preserved g t c =
    let asked = c.args.asked.now in
    let cs = asked.comparisons.now in
    let tables = tables_at asked.height (g.V.Versions.history asked.versions.now) in
    let sources = tables_of asked.steps.now in
    let prefix = c.args.prefix.now in
    let seen = c.in-Some.seen in
    let rest = c.next.new.self.rest.items in
    let total = c.args.rows.now ++ going_on tables cs asked.columns.now sources prefix in
    let entered : c.enter.new.prefix ≡ prefix ++ seen ∷ [] = c.in_ok-enter.ensures.prefix ∙ ap (λ f. f ++ seen ∷ []) c.loop-seen.invariant.0 in
    let next : c.loop-seen.seen-iterator.rest.items ≡ seen ∷ rest = c.in-Some.ensures.steps.0 in
    let early = All-rest IsEarly seen rest c.loop-seen.seen-iterator.rest.items next c.loop-seen.invariant.2 in
    let left : c.loop-seen.rows ++ going_by tables cs asked.columns.now sources prefix (seen ∷ rest) ≡ total =
    ap (λ items. c.loop-seen.rows ++ going_by tables cs asked.columns.now sources prefix items) (sym next) ∙ c.loop-seen.invariant.3 in
    elim c.if-branch.branch [
      | then-branch+in_ok-walk w ↦
          let more : c.if-branch.rows ≡ c.loop-seen.rows ++ going_on tables cs asked.columns.now sources (prefix ++ seen ∷ []) =
          w.rows-is ∙ w.in_ok-walk.ensures.rows.0 ∙ ap (λ f. c.loop-seen.rows ++ going_on tables cs asked.columns.now sources f) entered in (
            c.leave.ensures prefix seen (w.prefix-is ∙ w.in_ok-walk.ensures.prefix ∙ entered),
            subst (λ rows. length rows ≤ 1000000) (sym w.rows-is) w.in_ok-walk.ensures.rows.1,
            early,
            gone_on tables cs asked.columns.now sources prefix seen rest c.loop-seen.rows c.if-branch.rows total more left,
          )
      | else-branch w ↦
          let fails = c.in_ok-enter.ensures.fails w.if-branch.false in (
            c.leave.ensures prefix seen (w.prefix-is ∙ entered),
            subst (λ rows. length rows ≤ 1000000) (sym w.rows-is) c.loop-seen.invariant.1,
            early,
            ap (λ rows. rows ++ going_by tables cs asked.columns.now sources prefix rest) w.rows-is
                ∙ passed_over tables cs asked.columns.now sources prefix seen rest c.loop-seen.rows total c.requires.prefix.held
                (ap (λ f. holds_at_last cs (length f) (f ++ seen ∷ [])) (sym c.loop-seen.invariant.0) ∙ fails) left,
          )
    ]

pub returns-clause-rows : goal.returns-clause-rows
returns-clause-rows g t c =
    let asked = c.args.asked.now in
    let tables = tables_at asked.height (g.V.Versions.history asked.versions.now) in
    let none = nil_from_length c.loop-seen.seen-iterator.rest.items (omega (arith, c.in-None.ensures.steps.0, c.loop-seen.seen-iterator.rest.ok.0)) in (
      ends tables asked.comparisons.now asked.columns.now (tables_of asked.steps.now) c.args.prefix.now c.loop-seen.seen-iterator.rest.items c.loop-seen.rows
          (c.args.rows.now ++ going_on tables asked.comparisons.now asked.columns.now (tables_of asked.steps.now) c.args.prefix.now) none c.loop-seen.invariant.3,
      c.loop-seen.invariant.1,
    )
