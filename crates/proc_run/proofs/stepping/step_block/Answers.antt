use Rattle.std.proofs.Common.{◌≡◌, ap, sym, subst, ◌∙◌, Some, Err, IfOk}
use Rattle.std.specs.Prelude.{slice_get}
use Rattle.std.proofs.lemmas.Option.{slice_get-get_or}
use Rattle.proc_run.specs.Planned.{plan_of, PlanFits}
use Rattle.proc_run.specs.Remains.{state}
use Rattle.proc_run.proofs.Paths.{block_over, block_late, block_stops, block_goes}
use Rattle.proc_run.proofs.Planning.{plan_fits}
use Rattle.proc_run.proofs.stepping.step_block.Goals as goal
use Rattle.rel_base.proofs.Lists.{item_of}

pub returns-then-next-block-clause-remains : goal.returns-then-next-block-clause-remains
returns-then-next-block-clause-remains c = λ S.
    let b = c.requires.here in
    block_over c.args.program.now.tables.now c.args.program.now.columns.now S c.args.program.now.root.now c.args.spots.now.items c.args.cursor.at c.args.cursor.next c.args.cursor.branch c.args.block.now (state c.args.run.now) b c.if-next-block.true

pub returns-then-run-ge-MOST_RUN_STEPS-clause-remains : goal.returns-then-run-ge-MOST_RUN_STEPS-clause-remains
returns-then-run-ge-MOST_RUN_STEPS-clause-remains c = λ S.
    let b = c.requires.here in
    let a = item_of c.args.block.now c.args.cursor.next c.if-next-block.false in
    block_late c.args.program.now.tables.now c.args.program.now.columns.now S c.args.program.now.root.now c.args.spots.now.items c.args.cursor.at c.args.cursor.next c.args.cursor.branch c.args.block.now (state c.args.run.now) b a.0 a.1 c.if-run-ge-MOST_RUN_STEPS.true

pub returns-in-Err-Stop-clause-remains : goal.returns-in-Err-Stop-clause-remains
returns-in-Err-Stop-clause-remains c = λ S.
    let b = c.requires.here in
    let here : slice_get c.args.block.now c.args.cursor.next ≡ Some c.index-block-next.result = slice_get-get_or c.args.block.now c.args.cursor.next c.index-block-next.result c.if-next-block.false ∙ ap Some (sym c.index-block-next.is) in
    let why : plan_of c.args.program.now.tables.now c.args.program.now.columns.now c.index-block-next.result c.args.run.now.environment ≡ Err c.in-Err-Stop.why = rw c.in-Err-Stop.field-0-is at c.in-Err-Stop.ensures in
    rw c.in-Err-Stop.field-0-is
    (block_stops c.args.program.now.tables.now c.args.program.now.columns.now S c.args.program.now.root.now c.args.spots.now.items c.args.cursor.at c.args.cursor.next c.args.cursor.branch c.args.block.now (state c.args.run.now) b c.index-block-next.result here c.in-Err-Stop.why c.if-run-ge-MOST_RUN_STEPS.false why)

pub returns-in-Ok-clause-remains : goal.returns-in-Ok-clause-remains
returns-in-Ok-clause-remains c = λ S.
    let b = c.requires.here in
    let here : slice_get c.args.block.now c.args.cursor.next ≡ Some c.index-block-next.result = slice_get-get_or c.args.block.now c.args.cursor.next c.index-block-next.result c.if-next-block.false ∙ ap Some (sym c.index-block-next.is) in
    rw (c.perform.ensures.remains c.args.program.now.tables.now c.args.program.now.columns.now S c.args.program.now.root.now b)
    (block_goes c.args.program.now.tables.now c.args.program.now.columns.now S c.args.program.now.root.now c.args.spots.now.items c.args.cursor.at c.args.cursor.next c.args.cursor.branch c.args.block.now (state c.args.run.now) b c.index-block-next.result here c.in-Ok.plan c.if-run-ge-MOST_RUN_STEPS.false c.in-Ok.ensures)

pub returns-in-Ok-clause-fits : goal.returns-in-Ok-clause-fits
returns-in-Ok-clause-fits c =
    c.perform.ensures.fits c.args.program.now.tables.now (subst (λ r. IfOk r (PlanFits c.args.program.now.tables.now)) c.in-Ok.ensures (plan_fits c.args.program.now.tables.now c.args.program.now.columns.now c.index-block-next.result c.args.run.now.environment))
