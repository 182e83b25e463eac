use Rattle.cluster_run.proofs.Blocks.{seal_delivered, seal_leaves, seal_over}
use Rattle.cluster_run.proofs.Made.{keeps}
use Rattle.node_core.specs.Answers.{sealed_as}
use Rattle.node_model.specs.Steps.{ToSeal}
use Rattle.cluster_run.proofs.processing.seal_block.Goals as goal

pub returns-clause-comes : goal.returns-clause-comes
returns-clause-comes g c = record {
  same = c.seal-sealed.ensures.same;
  no_turn = c.seal-sealed.ensures.no_turn;
  hand = seal_leaves c.args.pass.now c.seal-sealed.new.pass c.seal-sealed.ensures.same c.requires.processor c.requires.stands.hand c.seal-sealed.result c.seal-sealed.ensures.turn c.seal-sealed.ensures.err;
  entries = keeps c.args.pass.now c.seal-sealed.new.pass c.seal-sealed.result ToSeal sealed_as c.seal-sealed.ensures.turn c.seal-sealed.ensures.err;
}

pub returns-clause-delivers : goal.returns-clause-delivers
returns-clause-delivers g c = seal_delivered c.args.pass.now c.seal-sealed.new.pass c.seal-sealed.ensures.same c.requires.processor c.requires.stands.hand c.seal-sealed.result c.seal-sealed.ensures.turn c.requires.all

pub returns-clause-rests : goal.returns-clause-rests
returns-clause-rests g c = seal_over c.args.pass.now c.seal-sealed.new.pass c.seal-sealed.ensures.same c.requires.processor c.requires.stands.hand c.seal-sealed.result c.seal-sealed.ensures.turn c.requires.all
