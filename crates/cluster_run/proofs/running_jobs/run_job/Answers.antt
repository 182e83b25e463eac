use Rattle.std.proofs.Common.{Some, refl, rules}
use Rattle.cluster_run.proofs.Following.{blocks_later, blocks_self, comes_self, comes_then, same_then, stands_then}
use Rattle.cluster_run.specs.Standing.{HasNone}
use Rattle.cluster_run.proofs.running_jobs.run_job.Goals as goal

pub loop-init : goal.loop-init
loop-init g c = (comes_self c.args.pass.now (Some c.args.work) c.requires.stands.no_turn c.requires.stands.hand, (λ zero. blocks_self c.args.pass.now), refl)

pub step_job-requires-clause-stands : goal.step_job-requires-clause-stands
step_job-requires-clause-stands g c κs within = stands_then c.requires.stands c.loop.invariant.0

pub returns-in_err-step_job-clause-comes : goal.returns-in_err-step_job-clause-comes
returns-in_err-step_job-clause-comes g c =
    let none : HasNone c.step_job.new.pass = search rules in
    record { same = same_then c.loop.invariant.0.same c.step_job.ensures.comes.same; no_turn = c.step_job.ensures.comes.no_turn; hand = none; entries = (comes_then c.loop.invariant.0 c.step_job.ensures.comes).entries }

pub returns-in_err-step_job-clause-blocks : goal.returns-in_err-step_job-clause-blocks
returns-in_err-step_job-clause-blocks g c = blocks_later c.loop.invariant.0.same c.loop.invariant.1 c.step_job.ensures.blocks

pub returns-in-None-2-clause-comes : goal.returns-in-None-2-clause-comes
returns-in-None-2-clause-comes g c =
    let none : HasNone c.step_job.new.pass = search rules in
    record { same = same_then c.loop.invariant.0.same c.step_job.ensures.comes.same; no_turn = c.step_job.ensures.comes.no_turn; hand = none; entries = (comes_then c.loop.invariant.0 c.step_job.ensures.comes).entries }

pub returns-in-None-2-clause-blocks : goal.returns-in-None-2-clause-blocks
returns-in-None-2-clause-blocks g c = blocks_later c.loop.invariant.0.same c.loop.invariant.1 c.step_job.ensures.blocks

pub loop-preserved : goal.loop-preserved
loop-preserved g c = (
  record { same = same_then c.loop.invariant.0.same c.step_job.ensures.comes.same; no_turn = c.step_job.ensures.comes.no_turn; hand = search rules; entries = (comes_then c.loop.invariant.0 c.step_job.ensures.comes).entries },
  blocks_later c.loop.invariant.0.same c.loop.invariant.1 c.step_job.ensures.blocks,
  search rules,
)
