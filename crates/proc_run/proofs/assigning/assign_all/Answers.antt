use Rattle.std.proofs.Common.{◌∙◌, ap, arith, drop}
use Rattle.proc_code.specs.Coded.{do_all}
use Rattle.proc_run.specs.Remains.{state}
use Rattle.proc_run.proofs.assigning.assign_all.Goals as goal

pub loop-alloc-preserved : goal.loop-alloc-preserved
loop-alloc-preserved c =
    let kept = c.loop-alloc.invariant in
    let done = c.loop-alloc-test.true in
    (c.assign_next.ensures.few, omega (arith, kept.1, c.assign_next.ensures.steps done), c.assign_next.ensures.made ∙ kept.2, c.assign_next.ensures.own ∙ kept.3, λ declared S. c.assign_next.ensures.same done declared S ∙ kept.4 declared S)

pub returns-clause-same : goal.returns-clause-same
returns-clause-same c = λ declared S.
    ap (λ run. do_all declared c.args.columns.now S (drop c.loop-alloc.next c.args.block.now) (state run)) (c.assign_next.ensures.none c.loop-alloc-test.false) ∙ c.loop-alloc.invariant.4 declared S
