use Rattle.cluster_run.proofs.Calls.{finish_back, finish_blocks, finish_ends, finish_free, same_trans}
use Rattle.cluster_run.proofs.Following.{comes_after}
use Rattle.cluster_run.proofs.Made.{keeps}
use Rattle.node_core.specs.Answers.{finished_as}
use Rattle.node_model.specs.Steps.{ToFinish}
use Rattle.cluster_run.proofs.running_jobs.end_job.Goals as goal

pub settle-requires-clause-over : goal.settle-requires-clause-over
settle-requires-clause-over g c =
    finish_free c.args.pass.now c.finish-ended.new.pass c.finish-ended.ensures.same c.args.work c.requires.stands.hand c.args.node.now.lock c.finish-ended.result c.requires.stands.lock c.finish-ended.ensures.no_turn
    c.finish-ended.ensures.turn

pub settle-requires-clause-back : goal.settle-requires-clause-back
settle-requires-clause-back g c =
    finish_back c.args.pass.now c.finish-ended.new.pass c.finish-ended.ensures.same c.args.work c.requires.stands.hand c.args.node.now.lock c.finish-ended.result c.requires.stands.lock c.finish-ended.ensures.no_turn
    c.finish-ended.ensures.err c.finish-ended.ensures.back

pub returns-clause-comes : goal.returns-clause-comes
returns-clause-comes g c =
    comes_after c.finish-ended.ensures.same (keeps c.args.pass.now c.finish-ended.new.pass c.finish-ended.result (ToFinish c.args.work.job) finished_as c.finish-ended.ensures.turn c.finish-ended.ensures.err) c.settle.ensures.comes

pub returns-clause-blocks : goal.returns-clause-blocks
returns-clause-blocks g c =
    same_trans c.args.pass.now c.finish-ended.new.pass c.settle.new.pass c.finish-ended.ensures.same
    (finish_blocks c.args.pass.now c.finish-ended.new.pass c.finish-ended.ensures.same c.args.work c.requires.stands.hand c.finish-ended.result c.finish-ended.ensures.turn c.finish-ended.ensures.err)
    c.settle.ensures.blocks

pub returns-clause-leaves : goal.returns-clause-leaves
returns-clause-leaves g c =
    c.settle.ensures.leaves c.args.work
    (finish_ends c.args.pass.now c.finish-ended.new.pass c.finish-ended.ensures.same c.args.work c.requires.stands.hand c.finish-ended.result c.finish-ended.ensures.turn)
