use Rattle.cluster_run.proofs.Blocks.{commit_blocks, commit_leaves, commit_says}
use Rattle.cluster_run.proofs.Made.{keeps}
use Rattle.node_core.specs.Answers.{decided_as}
use Rattle.node_model.specs.Steps.{ToCommit}
use Rattle.cluster_run.proofs.deciding.commit_next.Goals as goal

pub returns-clause-comes : goal.returns-clause-comes
returns-clause-comes g c = record {
  same = c.commit.ensures.same;
  no_turn = c.commit.ensures.no_turn;
  hand = commit_leaves c.args.pass.now c.commit.new.pass c.commit.ensures.same c.requires.processor c.requires.stands.hand c.commit.result c.commit.ensures.turn c.commit.ensures.err;
  entries = keeps c.args.pass.now c.commit.new.pass c.commit.result ToCommit decided_as c.commit.ensures.turn c.commit.ensures.err;
}

pub returns-clause-blocks : goal.returns-clause-blocks
returns-clause-blocks g c = commit_blocks c.args.pass.now c.commit.new.pass c.commit.ensures.same c.requires.processor c.requires.stands.hand c.commit.result c.commit.ensures.turn c.commit.ensures.err

pub returns-clause-says : goal.returns-clause-says
returns-clause-says g c = commit_says c.args.pass.now c.commit.new.pass c.commit.ensures.same c.requires.processor c.requires.stands.hand c.commit.result c.commit.ensures.turn
