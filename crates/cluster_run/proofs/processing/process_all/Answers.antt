use Rattle.std.proofs.Common.{None, arith, rules}
use Rattle.std.proofs.lemmas.Grind.{common_steps}
use Rattle.cluster_run.proofs.Following.{comes_then, comes_self, stands_then}
use Rattle.cluster_run.proofs.processing.process_all.Goals as goal

pub loop-block-init : goal.loop-block-init
loop-block-init g c = (comes_self c.args.pass.now None c.requires.stands.no_turn c.requires.stands.hand, c.requires.rests, search rules, c.requires.numbered)

pub process_block-requires-clause-stands : goal.process_block-requires-clause-stands
process_block-requires-clause-stands g c κs within = stands_then c.requires.stands c.loop-block.invariant.0

pub process_block-requires-clause-next : goal.process_block-requires-clause-next
process_block-requires-clause-next g c = grind (arith, common_steps)

pub returns-in_err-process_block-clause-comes : goal.returns-in_err-process_block-clause-comes
returns-in_err-process_block-clause-comes g c = comes_then c.loop-block.invariant.0 c.process_block.ensures.comes

pub returns-clause-comes : goal.returns-clause-comes
returns-clause-comes g c = c.loop-block.invariant.0

pub returns-clause-rests : goal.returns-clause-rests
returns-clause-rests g c = c.loop-block.invariant.1

pub loop-block-preserved : goal.loop-block-preserved
loop-block-preserved g c = (
  comes_then c.loop-block.invariant.0 c.process_block.ensures.comes,
  grind (arith, common_steps),
  grind (arith, common_steps),
  grind (arith, common_steps),
)

pub returns-clause-delivers : goal.returns-clause-delivers
returns-clause-delivers g c = grind (arith, common_steps)
