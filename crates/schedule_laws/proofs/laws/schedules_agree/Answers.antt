use Rattle.schedule_laws.proofs.Agreeing.{schedules_agree, schedules_seal_the_same}
use Rattle.schedule_laws.proofs.laws.schedules_agree.Goals as goal

pub returns-clause-front : goal.returns-clause-front
returns-clause-front c = schedules_agree

pub returns-clause-same : goal.returns-clause-same
returns-clause-same c = schedules_seal_the_same
