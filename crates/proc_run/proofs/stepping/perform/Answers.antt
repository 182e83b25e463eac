use Rattle.std.proofs.Common.{◌≡◌, ap, sym, ◌∙◌, length}
use Rattle.std.specs.Prelude.{◌+◌, [], ◌∷◌, ◌++◌}
use Rattle.rel_base.specs.Among.{rows_in}
use Rattle.proc_syntax.specs.declared.run.Binding.TheVariants.{Plain}
use Rattle.proc_run.specs.declared.path.Branch.TheVariants.{First, Second}
use Rattle.proc_run.specs.declared.path.Spot.TheVariants.{Block}
use Rattle.proc_run.specs.Path.{part_of, block_of, frames_of}
use Rattle.proc_run.specs.Remains.{state, run_frames, answered}
use Rattle.proc_syntax.specs.Steps.{then_do}
use Rattle.proc_code.specs.Coded.{do_all, put}
use Rattle.proc_run.proofs.Paths.{block_push, branch_taken}
use Rattle.proc_run.proofs.stepping.perform.Goals as goal

pub returns-in-Set-clause-remains : goal.returns-in-Set-clause-remains
returns-in-Set-clause-remains c = λ tables columns S root here.
    let same = c.push_rest.ensures.same tables columns S root (ap length here) in
    let counted = record (state c.args.run.now) { steps = c.args.run.now.steps + 1 } in
    rw (c.in-Set.is, c.put.ensures) (same.1 (put c.in-Set.slot (Plain c.in-Set.value) counted))

pub returns-in-Enter-clause-remains : goal.returns-in-Enter-clause-remains
returns-in-Enter-clause-remains c = λ tables columns S root here.
    let path = c.args.spots.now.items ++ Block c.args.cursor.at c.args.cursor.branch (c.args.cursor.next + 1) ∷ [] in
    let same = c.push_rest.ensures.same tables columns S root (ap length here) in
    let counted = record (state c.args.run.now) { steps = c.args.run.now.steps + 1 } in
    let block = here ∙ sym (block_push root c.args.spots.now.items (Block c.args.cursor.at c.args.cursor.branch (c.args.cursor.next + 1))) ∙ sym same.0 in
    rw c.in-Enter.is
    (c.enter_block.ensures.runs tables columns S root block counted
    ∙ ap (λ block. then_do (do_all tables columns S (part_of block c.args.cursor.next c.branch_of.result) counted) (run_frames tables columns S (frames_of root c.push_rest.new.spots.items))) same.0
    ∙ ap (then_do (do_all tables columns S (part_of (block_of root path) c.args.cursor.next c.branch_of.result) counted)) (λ i st. same.1 st i)
    ∙ branch_taken tables columns S root path c.args.cursor.next c.in-Enter.first c.branch_of.result counted c.branch_of.ensures)

pub returns-in-Ask-clause-remains : goal.returns-in-Ask-clause-remains
returns-in-Ask-clause-remains c = λ tables columns S root here.
    let path = c.args.spots.now.items ++ Block c.args.cursor.at c.args.cursor.branch (c.args.cursor.next + 1) ∷ [] in
    let same = c.push_rest.ensures.same tables columns S root (ap length here) in
    let counted = record (state c.args.run.now) { steps = c.args.run.now.steps + 1 } in
    let asked = c.in-Ask.asked in
    let next = c.args.cursor.next in
    rw c.in-Ask.is
    (ap (λ block. then_do (answered tables columns S (part_of block next First) (part_of block next Second) asked.made.read asked.pending (rows_in tables asked.made.read S) counted) (run_frames tables columns S (frames_of root c.push_rest.new.spots.items))) same.0
    ∙ ap (then_do (answered tables columns S (part_of (block_of root path) next First) (part_of (block_of root path) next Second) asked.made.read asked.pending (rows_in tables asked.made.read S) counted)) (λ i st. same.1 st i))
