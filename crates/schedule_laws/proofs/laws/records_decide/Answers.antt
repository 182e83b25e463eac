use Rattle.schedule_laws.proofs.Cutting.{records_decide}
use Rattle.schedule_laws.proofs.laws.records_decide.Goals as goal

pub returns : goal.returns
returns c = records_decide
