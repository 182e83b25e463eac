use Rattle.std.proofs.Common.{◌∷◌, [], ◌++◌, ap, subst, sym, ◌∙◌, drop}
use Rattle.std.proofs.lemmas.Result.{IfOk-weaker, on_err_weaker}
use Rattle.proc_run.specs.declared.path.Branch.TheVariants.{First}
use Rattle.proc_run.specs.declared.path.Spot.TheVariants.{Block, Loop}
use Rattle.proc_run.specs.Path.{part_of, block_of, frames_of}
use Rattle.proc_run.specs.Remains.{state, run_frames, IsSameVisit}
use Rattle.proc_run.proofs.Visited.{as_before, visit_goes, visit_rests}
use Rattle.proc_run.proofs.turn.turn_loop.Goals as goal

pub returns-then-statement-body-clause-remains : goal.returns-then-statement-body-clause-remains
returns-then-statement-body-clause-remains c = λ S.
    let program = c.args.program.now in
    let holder = c.args.holder in
    let left = c.args.left in
    let body = c.part-body.result.now in
    let visited = c.visit_rows-row in
    let ends = c.from_vec-rows.result in
    let is_body = c.part-body.ensures ∙ ap (λ z. part_of z holder.at First) (c.block_at.ensures ∙ ap (block_of program.root.now) c.deref.ensures.value) in
    let same = subst (λ ends. IsSameVisit program.columns.now holder.slot holder.table body [] (drop left.next left.rows) (state c.args.run.now) (drop visited.result.statement body) (drop visited.result.row ends) (state visited.new.run)) (sym c.from_vec-rows.ensures)
    (subst (λ rows. IsSameVisit program.columns.now holder.slot holder.table body [] (drop left.next rows) (state c.args.run.now) (drop visited.result.statement body) (drop visited.result.row visited.new.rows.items) (state visited.new.run)) c.into_vec-rows.ensures visited.ensures.same) in
    ap (λ path. run_frames program.tables.now program.columns.now S (frames_of program.root.now path) (state visited.new.run)) (c.push_block.ensures.items ∙ ap (λ items. items ++ Block holder.at First visited.result.statement ∷ []) c.push_rows.ensures.items)
    ∙ visit_goes program.columns.now holder.slot holder.table body program.tables.now S program.root.now c.args.spots.now.items holder.at left.rows ends left.next visited.result.row visited.result.statement (state c.args.run.now) (state visited.new.run) is_body same

pub returns-else-statement-body-clause-remains : goal.returns-else-statement-body-clause-remains
returns-else-statement-body-clause-remains c =
    let program = c.args.program.now in
    let holder = c.args.holder in
    let left = c.args.left in
    let body = c.part-body.result.now in
    let visited = c.visit_rows-row in
    let ends = c.from_vec-rows.result in
    let is_body = c.part-body.ensures ∙ ap (λ z. part_of z holder.at First) (c.block_at.ensures ∙ ap (block_of program.root.now) c.deref.ensures.value) in
    let same = subst (λ ends. IsSameVisit program.columns.now holder.slot holder.table body [] (drop left.next left.rows) (state c.args.run.now) (drop visited.result.statement body) (drop visited.result.row ends) (state visited.new.run)) (sym c.from_vec-rows.ensures)
    (subst (λ rows. IsSameVisit program.columns.now holder.slot holder.table body [] (drop left.next rows) (state c.args.run.now) (drop visited.result.statement body) (drop visited.result.row visited.new.rows.items) (state visited.new.run)) c.into_vec-rows.ensures visited.ensures.same) in
    IfOk-weaker c.step_rows.result _ _
    (λ phase goes S. goes program.tables.now program.columns.now S program.root.now
    ∙ visit_rests program.columns.now holder.slot holder.table body program.tables.now S program.root.now c.args.spots.now.items holder.at left.rows ends left.next visited.result.row visited.result.statement (state c.args.run.now) (state visited.new.run) is_body c.if-statement-body.false same)
    c.step_rows.ensures.remains

pub returns-else-statement-body-clause-err : goal.returns-else-statement-body-clause-err
returns-else-statement-body-clause-err c =
    let program = c.args.program.now in
    let holder = c.args.holder in
    let left = c.args.left in
    let body = c.part-body.result.now in
    let visited = c.visit_rows-row in
    let ends = c.from_vec-rows.result in
    let is_body = c.part-body.ensures ∙ ap (λ z. part_of z holder.at First) (c.block_at.ensures ∙ ap (block_of program.root.now) c.deref.ensures.value) in
    let same = subst (λ ends. IsSameVisit program.columns.now holder.slot holder.table body [] (drop left.next left.rows) (state c.args.run.now) (drop visited.result.statement body) (drop visited.result.row ends) (state visited.new.run)) (sym c.from_vec-rows.ensures)
    (subst (λ rows. IsSameVisit program.columns.now holder.slot holder.table body [] (drop left.next rows) (state c.args.run.now) (drop visited.result.statement body) (drop visited.result.row visited.new.rows.items) (state visited.new.run)) c.into_vec-rows.ensures visited.ensures.same) in
    on_err_weaker c.step_rows.result
    (λ kept S. as_before program.tables.now program.columns.now S program.root.now (c.args.spots.now.items ++ Loop holder.at holder.slot holder.table ends visited.result.row ∷ []) c.step_rows.new.spots.items visited.new.run c.step_rows.new.run kept
    ∙ visit_rests program.columns.now holder.slot holder.table body program.tables.now S program.root.now c.args.spots.now.items holder.at left.rows ends left.next visited.result.row visited.result.statement (state c.args.run.now) (state visited.new.run) is_body c.if-statement-body.false same)
    c.step_rows.ensures.err
