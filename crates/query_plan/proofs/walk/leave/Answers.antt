use Rattle.query_plan.proofs.Going.{taken_off}
use Rattle.query_plan.proofs.walk.leave.Goals as goal

pub returns : goal.returns
returns c = λ before last e. taken_off c.pop.result c.args.prefix.now c.pop.new.self before last c.pop.ensures e
