use Rattle.schedule_laws.proofs.Asking.{may_stays}
use Rattle.schedule_laws.proofs.Lasting.{others_leave}
use Rattle.schedule_laws.proofs.laws.others_leave.Goals as goal

pub returns-clause-held : goal.returns-clause-held
returns-clause-held c = others_leave

pub returns-clause-may : goal.returns-clause-may
returns-clause-may c = may_stays
