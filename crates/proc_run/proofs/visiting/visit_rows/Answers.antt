use Rattle.std.proofs.Common.{◌+◌, ◌∙◌, ap, arith, drop}
use Rattle.proc_run.specs.Remains.{state, in_visit}
use Rattle.proc_run.proofs.Visited.{visited_more}
use Rattle.proc_run.proofs.visiting.visit_rows.Goals as goal

pub returns-in-None-clause-same : goal.returns-in-None-clause-same
returns-in-None-clause-same c = λ declared S.
    let visit = c.args.visit.now in
    let reached = c.loop-reached.reached in
    let left = drop reached.statement visit.body.now in
    ap (λ rows. in_visit declared visit.columns.now S visit.holder.slot visit.holder.table visit.body.now left (drop reached.row rows) (state c.visit_next.new.run)) c.in-None.ensures.rows
    ∙ ap (λ run. in_visit declared visit.columns.now S visit.holder.slot visit.holder.table visit.body.now left (drop reached.row c.loop-reached.rows.items) (state run)) c.in-None.ensures.none
    ∙ c.loop-reached.invariant.5 declared S

pub loop-reached-preserved : goal.loop-reached-preserved
loop-reached-preserved c =
    let visit = c.args.visit.now in
    let reached = c.loop-reached.reached in
    let kept = c.loop-reached.invariant in
    let body = visit.body.now in (
      c.in-Some.ensures.few,
      omega (arith, kept.1, c.in-Some.ensures.more),
      c.in-Some.ensures.made ∙ kept.2,
      c.in-Some.ensures.own ∙ kept.3,
      λ within. omega (arith, kept.1, c.in-Some.ensures.more),
      visited_more visit.columns.now visit.holder.slot visit.holder.table body (drop c.args.next c.args.rows.now.items) (drop reached.row c.loop-reached.rows.items) (drop (reached.row + 1) c.visit_next.new.rows.items) reached.statement (drop c.in-Some.statement body) (state c.args.run.now) (state c.loop-reached.run) (state c.visit_next.new.run)
          c.loop-reached-test.true kept.5 c.in-Some.ensures.same,
    )
