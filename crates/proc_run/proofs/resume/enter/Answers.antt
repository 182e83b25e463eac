use Rattle.std.proofs.Common.{sym, ◌∙◌}
use Rattle.proc_syntax.specs.Steps.{asked}
use Rattle.proc_run.specs.Remains.{state}
use Rattle.proc_run.proofs.Paths.{enters_first, enters_second}
use Rattle.proc_run.proofs.resume.enter.Goals as goal

pub returns-in-None-clause-goes : goal.returns-in-None-clause-goes
returns-in-None-clause-goes c = λ tables columns S root read rows seen is.
    rw (c.push_block.ensures.items) (enters_second tables columns S root c.args.spots.now.items c.args.holder.at c.args.holder.slot c.args.holder.table seen (asked (state c.args.run.now) read rows) (sym is ∙ c.in-None.is))

pub returns-in-Some-clause-goes : goal.returns-in-Some-clause-goes
returns-in-Some-clause-goes c = λ tables columns S root read rows seen is.
    rw (c.push_block-in-Some.ensures.items, c.hold.ensures)
    (enters_first tables columns S root c.args.spots.now.items c.args.holder.at c.args.holder.slot c.args.holder.table seen (asked (state c.args.run.now) read rows) c.in-Some.row (sym is ∙ c.in-Some.is))
