use Rattle.std.proofs.Common.{sym, subst}
use Rattle.query_plan.proofs.Wide.{read_is}
use Rattle.query_plan.specs.Walk.{IsReadOf}
use Rattle.query_plan.proofs.access.read_of.Goals as goal

pub returns : goal.returns
returns c =
    subst (IsReadOf c.args.defs.now c.args.step.table c.args.comparisons.now c.args.prefix.now) (sym c.in_ok-read.ensures)
    (read_is c.def_of-def.result.now c.args.comparisons.now c.args.prefix.now c.args.defs.now c.args.step.table c.args.step.access c.def_of-def.ensures.declared c.def_of-def.ensures.fits)
