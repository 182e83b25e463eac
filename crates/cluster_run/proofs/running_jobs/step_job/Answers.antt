use Rattle.std.proofs.Common.{rules}
use Rattle.cluster_run.proofs.Calls.{ran_leaves, ran_stands}
use Rattle.cluster_run.proofs.running_jobs.step_job.Goals as goal

pub make_read-requires-clause-stands : goal.make_read-requires-clause-stands
make_read-requires-clause-stands g c = ran_stands c.args.node.now.lock c.args.pass.now c.args.work c.advance.new.self c.advance.ensures.same c.requires.stands

pub end_job-requires-clause-stands : goal.end_job-requires-clause-stands
end_job-requires-clause-stands g c = ran_stands c.args.node.now.lock c.args.pass.now c.args.work c.advance.new.self c.advance.ensures.same c.requires.stands

pub give_up-requires : goal.give_up-requires
give_up-requires g c = record { stands = ran_stands c.args.node.now.lock c.args.pass.now c.args.work c.advance.new.self c.advance.ensures.same c.requires.stands }

pub give_up-requires-in-Err : goal.give_up-requires-in-Err
give_up-requires-in-Err g c = record { stands = ran_stands c.args.node.now.lock c.args.pass.now c.args.work c.advance.new.self c.advance.ensures.same c.requires.stands }

pub returns-in-Ok-Wants-clause-leaves : goal.returns-in-Ok-Wants-clause-leaves
returns-in-Ok-Wants-clause-leaves g c = search (ran_leaves, rules)

pub returns-in-Ok-Ready-clause-leaves : goal.returns-in-Ok-Ready-clause-leaves
returns-in-Ok-Ready-clause-leaves g c = ran_leaves c.end_job.new.pass c.args.work c.advance.new.self c.advance.ensures.same c.end_job.result c.end_job.ensures.leaves
