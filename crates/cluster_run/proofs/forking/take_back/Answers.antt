use Rattle.std.proofs.Common.{◌∙◌}
use Rattle.cluster_run.proofs.Following.{holder_goes}
use Rattle.cluster_run.proofs.Forks.{join_blocks, join_none}
use Rattle.cluster_run.proofs.forking.take_back.Goals as goal

pub returns-clause-keeps : goal.returns-clause-keeps
returns-clause-keeps g c = record {
  same = holder_goes c.join.ensures.same.0 c.height.ensures.same;
  no_turn = c.height.ensures.no_turn;
  hand = join_none c.args.pass.now c.join.new.pass c.height.new.pass c.join.ensures.same.0 c.height.ensures.same c.requires.stands.hand c.join.ensures.later.0 c.join.ensures.own.0 c.height.ensures.turn;
  blocks = join_blocks c.args.pass.now c.join.new.pass c.height.new.pass c.join.ensures.same.0 c.height.ensures.same c.requires.stands.hand c.join.ensures.later.0 c.join.ensures.own.0 c.height.ensures.turn c.requires.processor;
}

pub returns-clause-ledger : goal.returns-clause-ledger
returns-clause-ledger g c = c.height.ensures.same.same_joined ∙ c.join.ensures.ledger
