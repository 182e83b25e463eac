use Rattle.schedule_laws.proofs.Allowing.{steps_are_allowed}
use Rattle.schedule_laws.proofs.laws.steps_are_allowed.Goals as goal

pub returns : goal.returns
returns c = steps_are_allowed
