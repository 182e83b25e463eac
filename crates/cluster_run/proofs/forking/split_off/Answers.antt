use Rattle.std.specs.Prelude.{◌+◌}
use Rattle.cluster_run.proofs.Forks.{new_none, split_blocks, split_none}
use Rattle.turn_lock.specs.Passes.{made}
use Rattle.cluster_run.proofs.forking.split_off.Goals as goal

pub returns-clause-keeps : goal.returns-clause-keeps
returns-clause-keeps g c = record {
  same = c.split-other.ensures.same.0;
  no_turn = c.split-other.ensures.same.1;
  hand = split_none c.args.pass.now c.split-other.new.pass c.split-other.ensures.same.0 c.requires.stands.hand c.split-other.ensures.stories.0 c.split-other.ensures.stories.1;
  blocks = split_blocks c.args.pass.now c.split-other.new.pass c.split-other.ensures.same.0 c.requires.stands.hand c.split-other.ensures.stories.0 c.split-other.ensures.stories.1 c.requires.processor;
}

pub returns-clause-other : goal.returns-clause-other
returns-clause-other g c = record {
  lock = c.split-other.ensures.fresh.of_lock;
  no_turn = c.split-other.ensures.fresh.no_turn;
  hand = new_none c.args.pass.now c.split-other.result c.args.node.now.lock (made c.args.pass.now + 1) c.requires.stands.hand c.split-other.ensures.fresh c.number.ensures.own;
}
