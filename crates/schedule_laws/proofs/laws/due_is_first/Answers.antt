use Rattle.schedule_laws.proofs.Waiting.{due_is_first}
use Rattle.schedule_laws.proofs.laws.due_is_first.Goals as goal

pub returns : goal.returns
returns c = due_is_first
