use Rattle.std.proofs.Common.{subst}
use Rattle.block_work.specs.Causes.{IsVerdictOn}
use Rattle.node_core.proofs.committing.add_decided.Goals as goal

pub returns-in-Commits-clause-consistent : goal.returns-in-Commits-clause-consistent
returns-in-Commits-clause-consistent c = λ tables can. c.commit.ensures.consistent tables (record {
  consistent = can.consistent;
  fits = can.fits;
  own = subst (IsVerdictOn tables c.args.work.now.committed.items c.args.ran) c.in-Commits.is can.sound;
})
