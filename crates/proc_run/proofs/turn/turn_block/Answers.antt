use Rattle.std.proofs.Common.{◌∷◌, [], ◌++◌, ap, ◌∙◌}
use Rattle.std.proofs.lemmas.Result.{IfOk-weaker, on_err_weaker}
use Rattle.proc_run.specs.declared.path.Spot.TheVariants.{Block}
use Rattle.proc_run.specs.Path.{part_of, block_of}
use Rattle.proc_run.specs.Remains.{state}
use Rattle.proc_run.proofs.Visited.{as_before, block_moved}
use Rattle.proc_run.proofs.turn.turn_block.Goals as goal

pub returns-clause-remains : goal.returns-clause-remains
returns-clause-remains c =
    let program = c.args.program.now in
    let cursor = c.args.cursor in
    let here = c.part-block.ensures ∙ ap (λ z. part_of z cursor.at cursor.branch) (c.block_at.ensures ∙ ap (block_of program.root.now) c.deref.ensures.value) in
    IfOk-weaker c.step_block.result _ _
    (λ phase goes S. goes S ∙ block_moved program.tables.now program.columns.now S program.root.now c.args.spots.now.items cursor.at cursor.next c.assign_all-next.result cursor.branch c.part-block.result.now (state c.args.run.now) (state c.assign_all-next.new.run) here c.assign_all-next.ensures.same)
    c.step_block.ensures.remains

pub returns-clause-err : goal.returns-clause-err
returns-clause-err c =
    let program = c.args.program.now in
    let cursor = c.args.cursor in
    let here = c.part-block.ensures ∙ ap (λ z. part_of z cursor.at cursor.branch) (c.block_at.ensures ∙ ap (block_of program.root.now) c.deref.ensures.value) in
    on_err_weaker c.step_block.result
    (λ same S. as_before program.tables.now program.columns.now S program.root.now (c.args.spots.now.items ++ Block cursor.at cursor.branch c.assign_all-next.result ∷ []) c.step_block.new.spots.items c.assign_all-next.new.run c.step_block.new.run same
    ∙ block_moved program.tables.now program.columns.now S program.root.now c.args.spots.now.items cursor.at cursor.next c.assign_all-next.result cursor.branch c.part-block.result.now (state c.args.run.now) (state c.assign_all-next.new.run) here c.assign_all-next.ensures.same)
    c.step_block.ensures.err
