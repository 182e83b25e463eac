use Rattle.std.proofs.Common.{OnOk, rules, ◌∙◌, ◌≡◌}
use Rattle.cluster_run.proofs.Calls.{read_blocks, read_further, read_leaves, same_trans}
use Rattle.cluster_run.proofs.Following.{comes_after}
use Rattle.cluster_run.proofs.Made.{keeps_both}
use Rattle.node_core.specs.Answers.{got_as}
use Rattle.node_model.specs.Steps.{ToRead}
use Rattle.cluster_run.specs.Standing.{IsFurther}
use Rattle.cluster_run.proofs.running_jobs.make_read.Goals as goal

pub give_up-requires : goal.give_up-requires
give_up-requires g c = record {
  stands = record {
    lock = c.read.ensures.same.same_lock ∙ c.requires.stands.lock;
    no_turn = c.read.ensures.no_turn;
    hand = read_leaves c.args.pass.now c.read.new.pass c.read.ensures.same c.args.work c.requires.stands.hand c.read.result c.read.new.work c.read.ensures.turn c.read.ensures.held c.read.ensures.answered c.read.ensures.err;
  };
}

pub returns-then-is_err-clause-comes : goal.returns-then-is_err-clause-comes
returns-then-is_err-clause-comes g c =
    comes_after c.read.ensures.same (keeps_both c.args.pass.now c.read.new.pass (c.read.new.work ≡ c.args.work) c.read.result (ToRead c.args.work.job) got_as c.read.ensures.turn c.read.ensures.err) c.give_up.ensures.comes

pub returns-then-is_err-clause-blocks : goal.returns-then-is_err-clause-blocks
returns-then-is_err-clause-blocks g c =
    same_trans c.args.pass.now c.read.new.pass c.give_up.new.pass c.read.ensures.same
    (read_blocks c.args.pass.now c.read.new.pass c.read.ensures.same c.args.work c.requires.stands.hand c.read.result c.read.new.work c.read.ensures.turn c.read.ensures.err) c.give_up.ensures.blocks

pub returns-clause-comes : goal.returns-clause-comes
returns-clause-comes g c = record {
  same = c.read.ensures.same;
  no_turn = c.read.ensures.no_turn;
  hand = read_leaves c.args.pass.now c.read.new.pass c.read.ensures.same c.args.work c.requires.stands.hand c.read.result c.read.new.work c.read.ensures.turn c.read.ensures.held c.read.ensures.answered c.read.ensures.err;
  entries = keeps_both c.args.pass.now c.read.new.pass (c.read.new.work ≡ c.args.work) c.read.result (ToRead c.args.work.job) got_as c.read.ensures.turn c.read.ensures.err;
}

pub returns-clause-blocks : goal.returns-clause-blocks
returns-clause-blocks g c =
    read_blocks c.args.pass.now c.read.new.pass c.read.ensures.same c.args.work c.requires.stands.hand c.read.result c.read.new.work c.read.ensures.turn c.read.ensures.err

pub returns-clause-leaves : goal.returns-clause-leaves
returns-clause-leaves g c =
    let further : OnOk c.read.result ((c.read.new.work.job ≡ c.args.work.job) × IsFurther c.args.work c.read.new.work) =
    read_further c.args.pass.now c.read.new.pass c.read.ensures.same c.args.work c.requires.stands.hand c.read.result c.read.new.work c.requires.wants.0 c.read.ensures.answered in
    search (further, rules)

pub returns-then-is_err-clause-leaves : goal.returns-then-is_err-clause-leaves
returns-then-is_err-clause-leaves g c = search rules
