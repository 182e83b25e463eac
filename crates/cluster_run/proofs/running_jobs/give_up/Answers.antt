use Rattle.cluster_run.proofs.Hands.{release_has, release_over}
use Rattle.cluster_run.proofs.Made.{turn_keeps}
use Rattle.cluster_run.proofs.Quiet.{step_blocks}
use Rattle.node_model.specs.Steps.{Released, ToRelease}
use Rattle.cluster_run.proofs.running_jobs.give_up.Goals as goal

pub returns-clause-comes : goal.returns-clause-comes
returns-clause-comes g c = record {
  same = c.release.ensures.same;
  no_turn = c.release.ensures.no_turn;
  hand = release_has c.args.pass.now c.release.new.pass c.release.ensures.same c.args.work c.requires.stands.hand Released c.release.ensures.turn;
  entries = turn_keeps c.args.pass.now c.release.new.pass (ToRelease c.args.work.job) Released c.release.ensures.turn;
}

pub returns-clause-blocks : goal.returns-clause-blocks
returns-clause-blocks g c zero =
    step_blocks c.args.pass.now c.release.new.pass c.release.ensures.same (ToRelease c.args.work.job) Released c.requires.stands.hand.true_to c.release.ensures.turn tt zero

pub returns-clause-over : goal.returns-clause-over
returns-clause-over g c = release_over c.args.pass.now c.release.new.pass c.release.ensures.same c.args.work c.requires.stands.hand Released c.release.ensures.turn
