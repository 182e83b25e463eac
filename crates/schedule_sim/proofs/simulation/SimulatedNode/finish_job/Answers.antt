use Rattle.schedule_sim.proofs.Taken.{back, ran_on, finish_stays}
use Rattle.schedule_sim.proofs.simulation.SimulatedNode.finish_job.Goals as goal

pub end_job-requires-clause-work : goal.end_job-requires-clause-work
end_job-requires-clause-work g c = ran_on c.args.self.now.node c.args.actor c.args.work c.advance.new.self c.advance.ensures.same c.requires.work

pub returns-in_default : goal.returns-in_default
returns-in_default g c = let is = ran_on c.args.self.now.node c.args.actor c.args.work c.advance.new.self c.advance.ensures.same c.requires.work in record {
  takes = finish_stays c.args.self.now.node c.args.actor c.advance.new.self is c.requires.others.legal c.in_ok-advance.field-0 c.in_default.not-Ready c.in_ok-advance.ensures.says c.in_ok-advance.ensures.may;
  hands = back c.args.self.now.node c.args.actor c.advance.new.self c.args.self.now.hands c.put_job.new.hands c.requires.others is c.put_job.ensures;
}
