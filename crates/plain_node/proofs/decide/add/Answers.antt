use Rattle.std.proofs.Common.{subst}
use Rattle.plain_node.proofs.decide.add.Goals as goal
use Rattle.plain_node.specs.Deciding.{IsDecision}

pub returns-in-Commits-clause-consistent : goal.returns-in-Commits-clause-consistent
returns-in-Commits-clause-consistent c = λ tables was decision. c.commit.ensures.consistent tables (subst (IsDecision tables c.args.work.now) c.in-Commits.is decision)
