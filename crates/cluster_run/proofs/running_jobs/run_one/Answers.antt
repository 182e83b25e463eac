use Rattle.std.proofs.Common.{rules}
use Rattle.cluster_run.proofs.Following.{blocks_later, comes_then}
use Rattle.cluster_run.specs.Standing.{HasNone}
use Rattle.cluster_run.proofs.running_jobs.run_one.Goals as goal

pub returns-in_err-run_job-in-Ok-Some-clause-comes : goal.returns-in_err-run_job-in-Ok-Some-clause-comes
returns-in_err-run_job-in-Ok-Some-clause-comes g c = comes_then c.take_job.ensures.comes c.run_job.ensures.comes

pub returns-in_err-run_job-in-Ok-Some-clause-blocks : goal.returns-in_err-run_job-in-Ok-Some-clause-blocks
returns-in_err-run_job-in-Ok-Some-clause-blocks g c = blocks_later c.take_job.ensures.comes.same c.take_job.ensures.blocks c.run_job.ensures.blocks

pub returns-in_ok-run_job-in-Ok-Some-clause-comes : goal.returns-in_ok-run_job-in-Ok-Some-clause-comes
returns-in_ok-run_job-in-Ok-Some-clause-comes g c = comes_then c.take_job.ensures.comes c.run_job.ensures.comes

pub returns-in_ok-run_job-in-Ok-Some-clause-blocks : goal.returns-in_ok-run_job-in-Ok-Some-clause-blocks
returns-in_ok-run_job-in-Ok-Some-clause-blocks g c = blocks_later c.take_job.ensures.comes.same c.take_job.ensures.blocks c.run_job.ensures.blocks

pub returns-in-Ok-None-clause-comes : goal.returns-in-Ok-None-clause-comes
returns-in-Ok-None-clause-comes g c =
    let none : HasNone c.take_job.new.pass = search rules in
    record { same = c.take_job.ensures.comes.same; no_turn = c.take_job.ensures.comes.no_turn; hand = none; entries = c.take_job.ensures.comes.entries }

pub returns-in-Ok-None-clause-blocks : goal.returns-in-Ok-None-clause-blocks
returns-in-Ok-None-clause-blocks g c = c.take_job.ensures.blocks

pub returns-in-Err-clause-comes : goal.returns-in-Err-clause-comes
returns-in-Err-clause-comes g c =
    let none : HasNone c.take_job.new.pass = search rules in
    record { same = c.take_job.ensures.comes.same; no_turn = c.take_job.ensures.comes.no_turn; hand = none; entries = c.take_job.ensures.comes.entries }

pub returns-in-Err-clause-blocks : goal.returns-in-Err-clause-blocks
returns-in-Err-clause-blocks g c = c.take_job.ensures.blocks
