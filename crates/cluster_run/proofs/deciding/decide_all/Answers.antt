use Rattle.std.proofs.Common.{None}
use Rattle.cluster_run.proofs.Following.{blocks_self, blocks_then, comes_then, comes_self, stands_then}
use Rattle.cluster_run.proofs.deciding.decide_all.Goals as goal

pub loop-init : goal.loop-init
loop-init g c = (comes_self c.args.pass.now None c.requires.stands.no_turn c.requires.stands.hand, blocks_self c.args.pass.now)

pub decide_next-requires-clause-stands : goal.decide_next-requires-clause-stands
decide_next-requires-clause-stands g c κs within = stands_then c.requires.stands c.loop.invariant.0

pub returns-in_err-decide_next-clause-comes : goal.returns-in_err-decide_next-clause-comes
returns-in_err-decide_next-clause-comes g c = comes_then c.loop.invariant.0 c.decide_next.ensures.comes

pub returns-in_err-decide_next-clause-blocks : goal.returns-in_err-decide_next-clause-blocks
returns-in_err-decide_next-clause-blocks g c = blocks_then c.loop.invariant.1 c.decide_next.ensures.blocks

pub returns-then-branch-clause-comes : goal.returns-then-branch-clause-comes
returns-then-branch-clause-comes g c = comes_then c.loop.invariant.0 c.decide_next.ensures.comes

pub returns-then-branch-clause-blocks : goal.returns-then-branch-clause-blocks
returns-then-branch-clause-blocks g c = blocks_then c.loop.invariant.1 c.decide_next.ensures.blocks

pub loop-preserved : goal.loop-preserved
loop-preserved g c = (comes_then c.loop.invariant.0 c.decide_next.ensures.comes, blocks_then c.loop.invariant.1 c.decide_next.ensures.blocks)
