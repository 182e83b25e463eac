use Rattle.std.proofs.Common.{◌+◌, subst, drop}
use Rattle.row_sets.specs.Overlay.{own_of}
use Rattle.proc_run.specs.Remains.{state, IsSameRest}
use Rattle.proc_run.proofs.Visited.{visited}
use Rattle.proc_run.proofs.visiting.visit_next.Goals as goal

pub returns-then-hold_next-clause-same : goal.returns-then-hold_next-clause-same
returns-then-hold_next-clause-same c =
    let visit = c.args.visit.now in
    let run = c.args.run.now in
    let body = visit.body.now in
    let held = c.hold_next.ensures.done c.if-hold_next.true in
    let rest = drop c.visit_row.result body in
    let same = subst (λ slots. IsSameRest visit.columns.now body (record { environment = record { slots = slots; time = run.environment.time }; own = own_of run.own; made = run.made.items; steps = run.steps + 1 }) rest (state c.visit_row.new.run)) held.2 c.visit_row.ensures.same in
    visited visit.columns.now visit.holder.slot visit.holder.table body c.args.rows.now.items c.hold_next.new.rows.items c.args.next held.0 rest (state run) (state c.visit_row.new.run) held.1 c.hold_next.ensures.rest c.if-run-ge-MOST_RUN_STEPS.false same
