use Rattle.std.proofs.Common.{false, rules, ◌≡◌}
use Rattle.std.specs.Prelude.{is_err}
use Rattle.node_core.specs.Answers.{finished_as}
use Rattle.node_core.specs.Core.{Steps}
use Rattle.node_model.specs.Steps.{ToFinish}
use Rattle.schedule_sim.proofs.Taken.{finish_hands, finish_takes, of_answer}
use Rattle.schedule_sim.proofs.simulation.SimulatedNode.end_job.Goals as goal

pub returns-clause-takes : goal.returns-clause-takes
returns-clause-takes g c =
    let node = c.args.self.now.node in
    let there : is_err c.finish.result ≡ false = search rules in
    let step = of_answer (λ got. Steps node c.args.work.actor (ToFinish c.args.work.job) (finished_as got) c.finish.new.self) c.finish.result there c.finish.ensures.step in
    finish_takes node c.args.actor c.args.work c.requires.work c.requires.others.legal c.finish.new.self (finished_as step.0) c.requires.goes step.1

pub returns-clause-hands : goal.returns-clause-hands
returns-clause-hands g c =
    let node = c.args.self.now.node in
    let there : is_err c.finish.result ≡ false = search rules in
    let step = of_answer (λ got. Steps node c.args.work.actor (ToFinish c.args.work.job) (finished_as got) c.finish.new.self) c.finish.result there c.finish.ensures.step in
    finish_hands node c.args.actor c.args.work c.requires.work c.requires.others.legal c.finish.new.self (finished_as step.0) c.requires.goes step.1 c.args.self.now.hands c.requires.others
