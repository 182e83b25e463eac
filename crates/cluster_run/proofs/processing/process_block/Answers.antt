use Rattle.std.proofs.Common.{◌∙◌}
use Rattle.cluster_run.proofs.Following.{comes_then, stands_then}
use Rattle.cluster_run.proofs.processing.process_block.Goals as goal

pub decide_all-requires-clause-stands : goal.decide_all-requires-clause-stands
decide_all-requires-clause-stands g c κs within = stands_then c.requires.stands c.deliver_block.ensures.comes

pub seal_block-requires-clause-stands : goal.seal_block-requires-clause-stands
seal_block-requires-clause-stands g c κs within = stands_then (stands_then c.requires.stands c.deliver_block.ensures.comes) c.decide_all.ensures.comes

pub returns-in_err-deliver_block-clause-comes : goal.returns-in_err-deliver_block-clause-comes
returns-in_err-deliver_block-clause-comes g c = c.deliver_block.ensures.comes

pub returns-in_err-decide_all-clause-comes : goal.returns-in_err-decide_all-clause-comes
returns-in_err-decide_all-clause-comes g c = comes_then c.deliver_block.ensures.comes c.decide_all.ensures.comes

pub returns-in_err-seal_block-clause-comes : goal.returns-in_err-seal_block-clause-comes
returns-in_err-seal_block-clause-comes g c = comes_then (comes_then c.deliver_block.ensures.comes c.decide_all.ensures.comes) c.seal_block.ensures.comes

pub returns-clause-comes : goal.returns-clause-comes
returns-clause-comes g c = comes_then (comes_then c.deliver_block.ensures.comes c.decide_all.ensures.comes) c.seal_block.ensures.comes

pub returns-clause-delivers : goal.returns-clause-delivers
returns-clause-delivers g c = c.in_ok-seal_block.ensures.delivers ∙ (c.decide_all.ensures.blocks.delivered_same ∙ c.in_ok-deliver_block.ensures.delivers)

pub returns-clause-rests : goal.returns-clause-rests
returns-clause-rests g c = c.in_ok-seal_block.ensures.rests
