use Rattle.std.proofs.Common.{◌≡◌, ◌<◌, ◌≤◌, arith, length, ap, sym, ◌∙◌, Some}
use Rattle.std.specs.Prelude.{slice_get}
use Rattle.proc_run.specs.Remains.{state}
use Rattle.proc_run.proofs.Paths.{loop_over, loop_late, loop_goes}
use Rattle.proc_run.proofs.stepping.step_rows.Goals as goal

pub returns-then-next-len-clause-remains : goal.returns-then-next-len-clause-remains
returns-then-next-len-clause-remains c = λ tables columns S root.
    let over : length c.args.rows ≤ c.args.next = omega (arith, c.len.ensures, c.if-next-len.true) in
    loop_over tables columns S root c.args.spots.now.items c.args.holder.at c.args.holder.slot c.args.holder.table c.args.rows c.args.next (state c.args.run.now) over

pub returns-then-run-ge-MOST_RUN_STEPS-clause-remains : goal.returns-then-run-ge-MOST_RUN_STEPS-clause-remains
returns-then-run-ge-MOST_RUN_STEPS-clause-remains c = λ tables columns S root.
    let within : c.args.next < length c.args.rows = omega (arith, c.len.ensures, c.if-next-len.false) in
    loop_late tables columns S root c.args.spots.now.items c.args.holder.at c.args.holder.slot c.args.holder.table c.args.rows c.args.next (state c.args.run.now) within c.if-run-ge-MOST_RUN_STEPS.true

pub returns-in-Ok-clause-remains : goal.returns-in-Ok-clause-remains
returns-in-Ok-clause-remains c = λ tables columns S root.
    let here : slice_get c.args.rows c.args.next ≡ Some c.in-Ok.row = ap (λ l. slice_get l c.args.next) (sym c.as_slice.ensures) ∙ c.in-Ok.ensures in
    rw (c.push_block.ensures.items, c.push_rows-in-Ok.ensures.items, c.hold.ensures)
    (loop_goes tables columns S root c.args.spots.now.items c.args.holder.at c.args.holder.slot c.args.holder.table c.args.rows c.args.next (state c.args.run.now) c.in-Ok.row here c.if-run-ge-MOST_RUN_STEPS.false)
